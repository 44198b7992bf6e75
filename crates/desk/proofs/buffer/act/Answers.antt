-- `act` on a buffer meets its contract.
use Rattle.std.proofs.Common.{◌≡◌, ◌∙◌, ◌++◌, ◌≤◌, ap, ap₂, sym, refl, ℕ, List, length, take, arith}
use Rattle.std.proofs.lemmas.List.{take-append-drop}
use Rattle.std.proofs.lemmas.Result.{err_from_is_err_and}
use Rattle.base.proofs.Parts.{drop-high, high_is, put_high, take-high}
use Rattle.base.specs.Stores.{stored}
use Rattle.drafts.proofs.ActLaws.{act-moved, act-refused, act-short}
use Rattle.drafts.specs.Buffer.{counter_bytes}
use Rattle.desk.proofs.buffer.act.Goals as goal

-- the memory put back behind the counters
put-behind : (b m : List ℕ) → 20 ≤ length b → put_high 20 b m ≡ take 20 b ++ m
put-behind b m h =
    sym (take-append-drop 20 (put_high 20 b m)) ∙ ap₂ (λ (x y : List ℕ). x ++ y) (take-high 20 b m h) (drop-high 20 b m h)

pub returns-then-buffer-lt-COUNTERS : goal.returns-then-buffer-lt-COUNTERS
returns-then-buffer-lt-COUNTERS c = act-short c.args.buffer.now c.args.call c.if-buffer-lt-COUNTERS.true refl refl

pub returns-in_err-left : goal.returns-in_err-left
returns-in_err-left c =
    let long : 20 ≤ length c.args.buffer.now = omega (arith, c.if-buffer-lt-COUNTERS.false) in
    let p = err_from_is_err_and c.from_residual.result c.from_residual.ensures.1 in
    rw (p.1, p.2) (act-refused c.args.buffer.now c.args.call c.counters_in-desk.ensures (high_is 20 c.args.buffer.now)
    (sym c.in_err-left.was ∙ c.act.ensures.answer) c.act.ensures.bytes refl (put-behind c.args.buffer.now c.act.new.memory long))

pub returns : goal.returns
returns c =
    let long : 20 ≤ length c.args.buffer.now = omega (arith, c.if-buffer-lt-COUNTERS.false) in
    act-moved c.args.buffer.now c.args.call c.counters_in-desk.ensures (high_is 20 c.args.buffer.now)
    (sym c.in_ok-left.was ∙ c.act.ensures.answer) c.act.ensures.bytes long c.act.ensures.counters refl
    (c.put_counters.ensures ∙ ap (λ (x : List ℕ). stored x 0 (counter_bytes c.act.new.desk)) (put-behind c.args.buffer.now c.act.new.memory long))
