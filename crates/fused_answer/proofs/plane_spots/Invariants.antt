use Rattle.fused_answer.specs.Spots.{Spotting}
use Rattle.fused_answer.proofs.plane_spots.Given as goal

abbrev pub invariant-loop-i : goal.invariant-loop-i
invariant-loop-i l = Spotting l.counts l.f l.m l.initial.spots l.spots l.o l.i
