use Rattle.solidjob.specs.Report.{job_fused}
use Rattle.solidjob.proofs.fuse_job.Goals as goal

pub returns : goal.returns
returns c = job_fused _ c.args.answer.now _ _ c.served.ensures c.requires c.served.auto.answer
