-- `form_ok` meets its contract.
use Rattle.std.proofs.Common.{◌≡◌, [], get_or, refl, arith}
use Rattle.desk.proofs.forms.FormLaws.{form-by-halves, half_of}
use Rattle.desk.proofs.forms.form_ok.Goals as goal

pub returns : goal.returns
returns c =
    let hs = c.as_chunks.result.0.now in
    let h : c.from_le_bytes-head.result ≡ half_of (get_or hs 0 []) = omega (arith, c.from_le_bytes-head.ensures) in
    let t : c.from_le_bytes-tail.result ≡ half_of (get_or hs 1 []) = omega (arith, c.from_le_bytes-tail.ensures) in
    form-by-halves c.args.bytes.now c.told-bytes c.fits-bytes c.as_chunks.ensures.front h t refl refl
