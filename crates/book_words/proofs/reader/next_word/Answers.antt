use Rattle.std.proofs.Common.{sym, ap, ◌∙◌, arith, rules}
use Rattle.std.specs.Char.{is_ascii_digit, is_ascii_alphanumeric}
use Rattle.book_words.specs.Words.{blank, ported, mark_kind}
use Rattle.book_words.proofs.Cutting.{cut_none, cut_run, cut_ask, cut_tell, cut_mark, no_name}
use Rattle.book_words.proofs.reader.next_word.Goals as goal

pub returns-in_err-b : goal.returns-in_err-b
returns-in_err-b c =
    let blanks = c.run_end-at.ensures.end blank (λ b r f k. search rules) in
    let none = cut_none c.args.text.now c.args.from c.run_end-at.result blanks c.in_err-b.ensures.lookup.3 in
    search rules

pub returns-in-63 : goal.returns-in-63
returns-in-63 c =
    let blanks = c.run_end-at.ensures.end blank (λ b r f k. search rules) in
    let digits = c.run_end-end-in-63.ensures.end is_ascii_digit (λ b r f k. search rules) in
    let l = c.in_ok-b.ensures.lookup.3 in
    record {
      words = cut_ask c.args.text.now c.args.from c.run_end-at.result c.run_end-end-in-63.result _ blanks l.0
          (sym (l.1 0) ∙ c.in-63.is) digits (c.act-word.ensures.kind ∙ ap ported c.port.ensures);
      behind = c.run_end-at.ensures.behind;
      ends = omega (arith, c.run_end-end-in-63.ensures.behind);
      within = c.run_end-end-in-63.ensures.within (omega arith);
      spells = no_name _ _ c.act-word.ensures.plain;
    }

pub returns-in-33 : goal.returns-in-33
returns-in-33 c =
    let blanks = c.run_end-at.ensures.end blank (λ b r f k. search rules) in
    let digits = c.run_end-end-in-33.ensures.end is_ascii_digit (λ b r f k. search rules) in
    let l = c.in_ok-b.ensures.lookup.3 in
    record {
      words = cut_tell c.args.text.now c.args.from c.run_end-at.result c.run_end-end-in-33.result _ blanks l.0
          (sym (l.1 0) ∙ c.in-33.is) digits (c.act-word-in-33.ensures.kind ∙ search rules);
      behind = c.run_end-at.ensures.behind;
      ends = omega (arith, c.run_end-end-in-33.ensures.behind);
      within = c.run_end-end-in-33.ensures.within (omega arith);
      spells = no_name _ _ c.act-word-in-33.ensures.plain;
    }

pub returns-then-is_alnum : goal.returns-then-is_alnum
returns-then-is_alnum c =
    let blanks = c.run_end-at.ensures.end blank (λ b r f k. search rules) in
    let run = c.run_end-end.ensures.end is_ascii_alphanumeric (λ b r f k. search rules) in
    let l = c.in_ok-b.ensures.lookup.3 in
    record {
      words = cut_run c.args.text.now c.args.from c.run_end-at.result c.run_end-end.result _ blanks l.0
          (ap is_ascii_alphanumeric (sym (l.1 0)) ∙ sym c.is_alnum.ensures ∙ c.if-is_alnum.true) run c.run_word-word.ensures.kind;
      behind = c.run_end-at.ensures.behind;
      ends = omega (arith, c.run_end-end.ensures.behind);
      within = c.run_end-end.ensures.within (omega arith);
      spells = c.run_word-word.ensures.spells;
    }

pub returns-in_default-2 : goal.returns-in_default-2
returns-in_default-2 c =
    let blanks = c.run_end-at.ensures.end blank (λ b r f k. search rules) in
    let l = c.in_ok-b.ensures.lookup.3 in
    record {
      words = cut_mark c.args.text.now c.args.from c.run_end-at.result _ blanks l.0
          (ap is_ascii_alphanumeric (sym (l.1 0)) ∙ sym c.is_alnum.ensures ∙ c.if-is_alnum.false)
          (λ e. omega (arith, c.in_default-2, e, l.1 0)) (λ e. omega (arith, c.in_default-2, e, l.1 0)) (c.mark.ensures.kind ∙ ap mark_kind (l.1 0));
      behind = c.run_end-at.ensures.behind;
      ends = omega arith;
      within = omega arith;
      spells = no_name _ _ c.mark.ensures.plain;
    }
