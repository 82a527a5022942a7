-- What a value that is shown prints as. Assumes nothing.
use Rattle.std.specs.Prelude.{ℕ, List, length, drop, string_bytes}
use Rattle.action.specs.Lists.{◌⧺◌}
use Rattle.catalogue.specs.Catalogue.{Catalogue}
use Rattle.catalogue.specs.Layers.{joined}
use Rattle.rows.specs.Opening.{opened}
use Rattle.table_format.specs.Reading.{meaning}
use Rattle.maker_table.specs.Table.{written}
use Rattle.maker_table.specs.declared.table.Table.{Table}
use Rattle.book.specs.declared.Book.{Book}
use Rattle.layers.specs.declared.joined.Joined.{Joined}
use Rattle.report.specs.Text.{catalogue_lines}
use Rattle.output.specs.declared.Printout.{Printout}
use Rattle.output.specs.declared.Printout.TheVariants.{Text, Modules}
use Rattle.output.specs.Output.{book_name, table_name}

-- the modules in front, then those behind them where the two are joined
abbrev pub joined_shown : (front back : Catalogue) → List ℕ
joined_shown front back = catalogue_lines book_name 0 front ⧺ catalogue_lines table_name (length front) (drop (length front) (joined front back))

abbrev pub modules_printed : Joined Book Table → List ℕ
modules_printed both = joined_shown (opened both.front.places.now both.front.modules.now) (meaning (written both.back))

abbrev pub printed : Printout → List ℕ
printed (Text s) = string_bytes s
printed (Modules both) = modules_printed both
