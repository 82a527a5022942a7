use Rattle.std.proofs.Common.{◌∙◌, rules}
use Rattle.std.proofs.lemmas.Result.{err_from_is_err_and}
use Rattle.compare.proofs.Whole.{Begun, start_there, start_missing, at_exit, old_unknown, new_unknown, refused_first, explored_full, explored_fair, settled_rows}
use Rattle.compare.proofs.comparing.compare.Goals as goal

pub returns-in_err-q : goal.returns-in_err-q
returns-in_err-q g c =
    let s = start_missing c.start.result _ c.in_err-q.field-0.0 c.in_err-q.ensures.value in
    let p = err_from_is_err_and c.from_residual.result c.from_residual.ensures.1 in
    let k = old_unknown (g.C.Catalogue.meaning c.args.catalogue.now) c.args.new c.args.old (g.met.C.Catalogue.lawful c.args.catalogue.now) c.args.table.now (s.0 ∙ c.start.ensures) in
    rw (p.1, p.2, s.1) (record { answer = k.answer; table = k.table; judges = k.judges; ordered = k.ordered; worked = k.worked })

pub returns-in_err-p : goal.returns-in_err-p
returns-in_err-p g c =
    let s = start_missing c.start-2.result _ c.in_err-p.field-0.0 c.in_err-p.ensures.value in
    let p = err_from_is_err_and c.from_residual-in_err-p.result c.from_residual-in_err-p.ensures.1 in
    let k = new_unknown (g.C.Catalogue.meaning c.args.catalogue.now) c.args.new c.args.old (g.met.C.Catalogue.lawful c.args.catalogue.now) c.args.table.now
    c.in_ok-q.q (start_there _ _ _ c.in_ok-q.ensures.value ∙ c.start.ensures) (s.0 ∙ c.start-2.ensures) in
    rw (p.1, p.2, s.1) (record { answer = k.answer; table = k.table; judges = k.judges; ordered = k.ordered; worked = k.worked })

pub returns-in_err-admit : goal.returns-in_err-admit
returns-in_err-admit g c =
    let p = err_from_is_err_and c.from_residual-in_err-admit.result c.from_residual-in_err-admit.ensures.1 in
    let k = at_exit (g.C.Catalogue.meaning c.args.catalogue.now) c.args.new c.args.old _ _ _ _ c.none-filled.ensures.rows (search rules)
    (refused_first (g.C.Catalogue.meaning c.args.catalogue.now) c.args.new c.args.old (g.met.C.Catalogue.lawful c.args.catalogue.now) c.in_ok-p.p c.in_ok-q.q
    (start_there _ _ _ c.in_ok-p.ensures.value ∙ c.start-2.ensures) (start_there _ _ _ c.in_ok-q.ensures.value ∙ c.start.ensures)
    c.none-filled.result c.admit.new.self c.none-filled.ensures.count _ c.in_err-admit.ensures) in
    rw (p.1, p.2) (record { answer = k.answer; table = k.table; judges = k.judges; ordered = k.ordered; worked = k.worked })

pub returns-in_err-explore : goal.returns-in_err-explore
returns-in_err-explore g c =
    let b : Begun (g.C.Catalogue.meaning c.args.catalogue.now) c.args.new c.args.old c.none-filled.result c.admit.new.self c.of-modules.result.new c.of-modules.result.old =
    record {
      lawful = g.met.C.Catalogue.lawful c.args.catalogue.now;
      p = c.in_ok-p.p;
      q = c.in_ok-q.q;
      new_start = start_there _ _ _ c.in_ok-p.ensures.value ∙ c.start-2.ensures;
      old_start = start_there _ _ _ c.in_ok-q.ensures.value ∙ c.start.ensures;
      none = c.none-filled.ensures.count;
      is_new = c.of-modules.ensures.new;
      is_old = c.of-modules.ensures.old;
      grew = c.in_ok-admit.ensures;
    } in
    let p = err_from_is_err_and c.from_residual-in_err-explore.result c.from_residual-in_err-explore.ensures.1 in
    let k = at_exit (g.C.Catalogue.meaning c.args.catalogue.now) c.args.new c.args.old _ _ _ _ c.none-filled.ensures.rows (search rules)
    (explored_full (g.C.Catalogue.meaning c.args.catalogue.now) c.args.new c.args.old _ _ _ _ b c.explore.new.self _ c.in_err-explore.ensures) in
    rw (p.1, p.2) (record { answer = k.answer; table = k.table; judges = k.judges; ordered = k.ordered; worked = k.worked })

pub settle-requires : goal.settle-requires
settle-requires g c =
    let b : Begun (g.C.Catalogue.meaning c.args.catalogue.now) c.args.new c.args.old c.none-filled.result c.admit.new.self c.of-modules.result.new c.of-modules.result.old =
    record {
      lawful = g.met.C.Catalogue.lawful c.args.catalogue.now;
      p = c.in_ok-p.p;
      q = c.in_ok-q.q;
      new_start = start_there _ _ _ c.in_ok-p.ensures.value ∙ c.start-2.ensures;
      old_start = start_there _ _ _ c.in_ok-q.ensures.value ∙ c.start.ensures;
      none = c.none-filled.ensures.count;
      is_new = c.of-modules.ensures.new;
      is_old = c.of-modules.ensures.old;
      grew = c.in_ok-admit.ensures;
    } in
    explored_fair (g.C.Catalogue.meaning c.args.catalogue.now) c.args.new c.args.old _ _ _ _ b c.explore.new.self c.in_ok-explore.ensures

pub returns : goal.returns
returns g c =
    let b : Begun (g.C.Catalogue.meaning c.args.catalogue.now) c.args.new c.args.old c.none-filled.result c.admit.new.self c.of-modules.result.new c.of-modules.result.old =
    record {
      lawful = g.met.C.Catalogue.lawful c.args.catalogue.now;
      p = c.in_ok-p.p;
      q = c.in_ok-q.q;
      new_start = start_there _ _ _ c.in_ok-p.ensures.value ∙ c.start-2.ensures;
      old_start = start_there _ _ _ c.in_ok-q.ensures.value ∙ c.start.ensures;
      none = c.none-filled.ensures.count;
      is_new = c.of-modules.ensures.new;
      is_old = c.of-modules.ensures.old;
      grew = c.in_ok-admit.ensures;
    } in
    let k = at_exit (g.C.Catalogue.meaning c.args.catalogue.now) c.args.new c.args.old _ _ _ _ c.none-filled.ensures.rows (search rules)
    (settled_rows (g.C.Catalogue.meaning c.args.catalogue.now) c.args.new c.args.old _ _ _ _ b c.explore.new.self c.settle.new.self.rows.now c.settle.new.self.count c.in_ok-explore.ensures c.settle.ensures.alike c.settle.ensures.same_count c.settle.ensures.ranked) in
    record { answer = k.answer; table = k.table; judges = k.judges; ordered = k.ordered; worked = k.worked }
