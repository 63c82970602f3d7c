use Rattle.bundle.specs.Bodies.{bundle_bytes}
use Rattle.decode.specs.Decode.{parts_of}
use Rattle.decode.proofs.Holding.{parts_same}
use Rattle.decode.proofs.read.bodies.Goals as goal

pub returns : goal.returns
returns c =
    parts_same _ (parts_of (bundle_bytes c.args.bundle.now)) c.args.bundle.now.headed
    c.stretch.ensures c.stretch-2.ensures c.stretch-3.ensures c.stretch-4.ensures c.stretch-5.ensures c.stretch-6.ensures c.stretch-7.ensures
