use Rattle.solid_mesh.specs.Laws.{refused_drawn, fine_drawn}
use borrow.Author.Rules.{rules}
use Rattle.solid_mesh.proofs.put_meshed.Goals as goal

pub returns-in-Err : goal.returns-in-Err
returns-in-Err c = search (rules, refused_drawn)

pub returns-in-Ok : goal.returns-in-Ok
returns-in-Ok c = search (rules, fine_drawn)
