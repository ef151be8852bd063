use Rattle.volume.specs.Volume.{volume_sign}
use Rattle.volume.specs.Shell.{first_corner_lem}
use Rattle.volume.proofs.volume_sign.Goals as goal

pub returns : goal.returns
unfolding volume_sign
returns c =
    let a = c.args in
    cc (first_corner_lem a.points.now a.v.now a.starts.now a.shell.now c.requires.1)
