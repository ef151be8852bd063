use native.Mathlib.Omega.{arith}
use Rattle.solidjob.specs.Report.{report_put}
use Rattle.solidjob.proofs.put_report.Goals as goal

pub put_lines-requires : goal.put_lines-requires
put_lines-requires c = omega (arith, c.fuse_job-e.ensures.0.1, c.fuse_job-e.ensures.1.1.1, c.requires)

pub returns : goal.returns
returns c = record { value = (report_put _ _ c.args.text.now _ _ _ _ c.fuse_job-e.ensures c.number_by.ensures c.put_lines.ensures.value c.put_lines.ensures.out_after).0; text_after = (report_put _ _ c.args.text.now _ _ _ _ c.fuse_job-e.ensures c.number_by.ensures c.put_lines.ensures.value c.put_lines.ensures.out_after).1 }
