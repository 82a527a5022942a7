use Rattle.rows.proofs.Refused.{tells_of_walks}
use Rattle.book.proofs.Book.fault.Goals as goal

pub returns-clause-walks : goal.returns-clause-walks
returns-clause-walks c = let b = c.args.self.now in tells_of_walks b.places.now b.modules.now b.verdict b.tried
