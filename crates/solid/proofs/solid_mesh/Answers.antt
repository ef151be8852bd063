use Rattle.solid.proofs.solid_mesh.Goals as goal

pub shape_of-answer : goal.shape_of-answer
shape_of-answer c = c.mesh.auto.answer

pub returns : goal.returns
returns c = c.mesh.ensures
