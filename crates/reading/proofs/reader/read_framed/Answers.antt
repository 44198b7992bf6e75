-- `read_framed` meets its contract: length, then blocks.
use Rattle.std.proofs.Common.{arith}
use Rattle.std.proofs.lemmas.Result.{err_from_is_err_and}
use Rattle.blocks.proofs.Refusing.BlockLaws.{last-used}
use Rattle.blocks.specs.Frame.{framed}
use Rattle.reading.proofs.reader.ReadingLaws.{blocks-clean, read-block, read_length, read-sound}
use Rattle.reading.proofs.reader.read_framed.Goals as goal

pub returns-in_default : goal.returns-in_default
returns-in_default g c = read_length (framed g.row.WIDTH g.row.ROOM) c.args.most c.args.input c.args.s.now c.in_default.ensures

pub entries_in-requires : goal.entries_in-requires
entries_in-requires g c =
    let e = c.in-Some.ensures in
    let clean = blocks-clean _ _ _ _ e.0 e.1 c.check_frames.ensures c.in_ok-check_frames.was in
    (c.requires.1, e.2, e.3, e.1, last-used _ _ _ (omega arith) clean)

pub returns-in_err-check_frames : goal.returns-in_err-check_frames
returns-in_err-check_frames g c =
    let p = err_from_is_err_and c.from_residual.result c.from_residual.ensures.1 in
    let e = c.in-Some.ensures in
    rw (p.1, p.2) (read-block _ _ _ _ e.0 e.1 c.check_frames.ensures c.in_err-check_frames.was)

pub returns : goal.returns
returns g c =
    let e = c.in-Some.ensures in
    read-sound _ _ _ _ e.0 e.1 c.check_frames.ensures c.in_ok-check_frames.was c.entries_in.ensures.0
