use Prim.Native.Nat.{◌*◌, ◌+◌, ◌-◌, ◌<◌, ◌≤◌, ℕ}
use lib.ListN.{drop, get_or, length, length-append, length-map, set, take}
use mathlib.Core.List.{List, [], ◌++◌, ◌∷◌, append-nil, map}
use mathlib.Core.Path.{◌∙◌, ◌≡◌, ap, refl, sym}
use native.Mathlib.Omega.{arith}
use Rattle.base.proofs.Tests.{eq-eqb, ne_eqb}
use Rattle.blocks.specs.declared.Entry.{Entry}
use Rattle.names.proofs.InPasses.PassStages.{empty-contents}
use Rattle.names.specs.NamedReading.{dictionary_of}
use Rattle.names.specs.Unfold.{contents, owned_by, relocate}
use Rattle.names.specs.code.Passes.{inside}
use Rattle.std.proofs.Common.{None}
use Rattle.std.proofs.lemmas.List.{get_or-take, take-set-le}
use Rattle.unfolding.proofs.OpenLaws.{aside-back, aside-gives, aside-greatest, aside-opened, contents-owners, going-greatest, going-name, going-on, going-owner, going-past, going-room, inside-few, put-back, put-long, put-owners, put-plain, take-less}
use Rattle.unfolding.proofs.ReplaceLaws.{bound-set, owners-within, pass-ends, stands-again, stands-owners, stands-put, stood-more, stood-set}
use Rattle.unfolding.specs.code.Rows.{greatest_name}
use Rattle.unfolding.proofs.contents.+put_name_put_first_put_opened.Goals.{put_opened-then-e-eq-NAME, put_opened-else-e-eq-NAME}
use Rattle.unfolding.proofs.contents.+put_name_put_first_put_opened.Goals as goal

-- ---- a name

pub put_name-returns-then-size-eq0 : goal.put_name-returns-then-size-eq0
put_name-returns-then-size-eq0 t c =
    let D = c.args.dictionary in
    let Z = D.ready.known.sized in
    let K = dictionary_of D.bytes.now in
    let none = empty-contents K c.args.n (eq-eqb (sym (Z.sizes c.args.n (omega (arith, c.requires.1, Z.few))) ∙ sym c.size.ensures ∙ c.if-size-eq0.true)) in
    rw none (sym (append-nil c.args.out.now), c.requires.3, record { opened = refl; number = refl })

pub put_name-put_again-requires : goal.put_name-put_again-requires
put_name-put_again-requires t c =
    let D = c.args.dictionary in
    let K = dictionary_of D.bytes.now in
    let S = c.requires.3.stood.put c.args.n c.in-Some.place (ap (λ (i : ℕ). get_or c.args.opening.now.stood i None) (sym c.from-i.ensures) ∙ c.in-Some.is) in
    let w = owners-within (contents K c.args.n) (contents-owners K D.ready.known.sized.each c.args.n) in
    rw (c.from.ensures, c.from-in-Some.ensures) (S.within, omega (arith, S.long, c.requires.4), stands-owners S w)

pub put_name-returns-in-Some : goal.put_name-returns-in-Some
put_name-returns-in-Some t c =
    let a = c.args in
    let K = dictionary_of a.dictionary.bytes.now in
    let S = c.requires.3.stood.put c.args.n c.in-Some.place (ap (λ (i : ℕ). get_or c.args.opening.now.stood i None) (sym c.from-i.ensures) ∙ c.in-Some.is) in
    let xs = map (relocate (length a.out.now) a.o) (contents K a.n) in
    let p = rw (c.from.ensures, c.from-in-Some.ensures) at c.put_again.ensures in
    let put = p ∙ ap (λ (x : List Entry). a.out.now ++ x) (stands-again S (length a.out.now) a.o) in (
      put,
      record { stood = stood-more c.requires.3.stood xs put; bound = λ j. omega (arith, c.requires.3.bound j, ap length put, length-append a.out.now xs) },
      record { opened = refl; number = refl },
    )

pub put_name-returns : goal.put_name-returns
put_name-returns t c =
    let a = c.args in
    let K = dictionary_of a.dictionary.bytes.now in
    let p = c.put_first.ensures in
    let put : c.put_first.new.out ≡ a.out.now ++ map (relocate (length a.out.now) a.o) (contents K c.from-i.result) = rw c.from-i.ensures p.0 in
    let few : c.from-i.result < length c.put_first.new.opening.stood = omega (arith, c.from-i.ensures, c.requires.1, a.dictionary.ready.known.sized.few) in (
      p.0,
      record {
        stood = stood-set p.1.stood c.from-i.result few
            (stands-put (contents K c.from-i.result) a.out.now a.o c.requires.2 put c.len-m.ensures.0
            (ap (λ (k : ℕ). k - c.len-m.result) c.len.ensures.0));
        bound = p.1.bound;
      },
      record { opened = p.2.opened; number = p.2.number },
    )

-- ---- a name that comes first

pub put_first-put_described-requires : goal.put_first-put_described-requires
put_first-put_described-requires t c =
    (c.requires.0, c.requires.1, omega (arith, inside-few _ c.args.dictionary.ready.known.sized.each c.args.n c.requires.0 c.requires.1, c.requires.4))

pub put_first-returns-then-not-has_names_after : goal.put_first-returns-then-not-has_names_after
put_first-returns-then-not-has_names_after t c =
    let a = c.args in
    let K = dictionary_of a.dictionary.bytes.now in
    let p = c.put_described.ensures in
    let whole = put-plain _ a.dictionary.ready.known.sized.each a.n c.requires.0 c.requires.1 a.o a.out.now c.requires.2 p c.len-m.ensures.0
    (sym c.has_names_after.ensures ∙ c.if-not-has_names_after.true) in
    let xs = map (relocate (length a.out.now) a.o) (inside K a.n) in (
      p ∙ ap (λ (es : List Entry). a.out.now ++ map (relocate (length a.out.now) a.o) es) whole,
      record { stood = stood-more c.requires.3.stood xs p; bound = λ j. omega (arith, c.requires.3.bound j, ap length p, length-append a.out.now xs) },
      record { opened = refl; number = refl },
    )

pub put_first-put_aside-requires : goal.put_first-put_aside-requires
put_first-put_aside-requires t c =
    let a = c.args in
    let each = a.dictionary.ready.known.sized.each in
    let p = c.put_described.ensures in
    let long = put-long _ each a.n c.requires.0 c.requires.1 a.o a.out.now c.requires.2 p c.len-m.ensures.0 in
    let pushed = length-append a.opening.now.opened (record { kind = 9; reserved = 0; owner = 0; name = a.n; number = 0 } ∷ []) in (
      omega (arith, long),
      omega (arith, long, pushed, ap length c.push.ensures, inside-few _ each a.n c.requires.0 c.requires.1, c.requires.0, c.requires.5),
      put-owners _ each a.n c.requires.0 c.requires.1 a.o a.out.now c.requires.2 p c.len-m.ensures.0,
    )

pub put_first-put_opened-requires : goal.put_first-put_opened-requires
put_first-put_opened-requires t c =
    let a = c.args in
    let each = a.dictionary.ready.known.sized.each in
    let K = dictionary_of a.dictionary.bytes.now in
    let p = c.put_described.ensures in
    let q = c.put_aside.ensures in
    let base = a.opening.now.opened in
    let end = c.len-at.ensures.0 in
    let xs = map (relocate (length a.out.now) a.o) (contents K a.n) in
    let back = q.0 ∙ put-back _ each a.n c.requires.0 c.requires.1 a.o a.out.now c.requires.2 p c.len-m.ensures.0 in
    let there : c.len-at.result + 1 < length a.opening.now.number = omega (arith, end, c.requires.5, c.requires.0) in
    let g = aside-greatest _ each a.n c.requires.0 c.requires.1 a.o a.out.now c.requires.2 p c.len-m.ensures.0 base end _ c.push.ensures q.1 in
    let gives = aside-gives _ each a.n c.requires.0 c.requires.1 a.o a.out.now c.requires.2 p c.len-m.ensures.0 base end _ c.push.ensures q.1 a.opening.now.number there back in
    let long = ap length gives in
    let small : 3 * greatest_name (drop (c.len-at.result + 1) c.put_aside.new.aside) + 3 < t = omega (arith, c.decreases, g, c.requires.0) in (
      small,
      (
        aside-opened _ each a.n c.requires.0 c.requires.1 a.o a.out.now c.requires.2 p c.len-m.ensures.0 base end _ c.push.ensures q.1,
        record {
          stood = rw back c.requires.3.stood;
          bound = rw back (bound-set a.opening.now.number (c.len-at.result + 1) a.o there c.requires.3.bound (omega arith) c.requires.2);
        },
        omega (arith, long, length-append a.out.now xs, length-map (contents K a.n) (relocate (length a.out.now) a.o), c.requires.4),
        omega (arith, long, length-append a.out.now xs, length-map (contents K a.n) (relocate (length a.out.now) a.o), c.requires.5, g, end, ap length back, c.requires.0),
      ),
    )

pub put_first-returns : goal.put_first-returns
put_first-returns t c =
    let a = c.args in
    let each = a.dictionary.ready.known.sized.each in
    let p = c.put_described.ensures in
    let q = c.put_aside.ensures in
    let base = a.opening.now.opened in
    let end = c.len-at.ensures.0 in
    let back = q.0 ∙ put-back _ each a.n c.requires.0 c.requires.1 a.o a.out.now c.requires.2 p c.len-m.ensures.0 in
    let there : c.len-at.result + 1 < length a.opening.now.number = omega (arith, end, c.requires.5, c.requires.0) in
    let gives = aside-gives _ each a.n c.requires.0 c.requires.1 a.o a.out.now c.requires.2 p c.len-m.ensures.0 base end _ c.push.ensures q.1 a.opening.now.number there back in
    let o = c.put_opened.ensures in
    let closed = aside-back _ each a.n c.requires.0 c.requires.1 a.o a.out.now c.requires.2 p c.len-m.ensures.0 base end _ c.push.ensures q.1 in (
      o.0 ∙ gives,
      record { stood = o.1.stood; bound = o.1.bound },
      record {
        opened = c.truncate.ensures ∙ ap (λ (es : List Entry). take c.len-at.result es) o.2.opened ∙ closed;
        number = take-less (length base + 1) (c.len-at.result + 1 + 1) c.put_opened.new.opening.number (set a.opening.now.number (c.len-at.result + 1) a.o) (omega (arith, end)) o.2.number
            ∙ take-set-le (length base + 1) a.opening.now.number (c.len-at.result + 1) a.o (omega (arith, end));
      },
    )

-- ---- what is open

pub put_opened-put_name-requires : goal.put_opened-put_name-requires
put_opened-put_name-requires t c =
    let l = c.loop-i in
    let I = l.invariant in
    let O = c.requires.0 in
    let K = dictionary_of c.args.dictionary.bytes.now in
    let e = c.at-e.result in
    let es = c.args.opening.now.opened in
    let hi : l.i < length es = omega (arith, c.loop-i-test.true, c.len-i-end.ensures.0) in
    let named = eq-eqb c.if-e-eq-NAME.true in
    let name = going-name I O l.auto.i hi c.at-e.ensures named in
    let room = going-room I O l.auto.i hi c.at-e.ensures named in
    let g = going-greatest I O l.auto.i hi c.at-e.ensures named in
    let small : 3 * e.name + 2 < t = omega (arith, c.decreases, g) in
    let deep : length l.opening.opened + length (contents K e.name) + 2 * e.name ≤ 1137 = omega (arith, room, I.grown, ap length I.same.opened, g, c.requires.3, hi, l.auto.i) in
    (small, (name.0, name.1.0, I.laid.bound c.from.result, record { stood = I.laid.stood; bound = I.laid.bound }, omega (arith, room, c.requires.2), deep))

pub put_opened-loop-i-preserved : goal.put_opened-loop-i-preserved
put_opened-loop-i-preserved t c =
    let l = c.loop-i in
    let I = l.invariant in
    let O = c.requires.0 in
    let K = dictionary_of c.args.dictionary.bytes.now in
    let e = c.at-e.result in
    let es = c.args.opening.now.opened in
    let hi : l.i < length es = omega (arith, c.loop-i-test.true, c.len-i-end.ensures.0) in
    let below : e.owner < length es + 1 = omega (arith, going-owner I O l.auto.i hi c.at-e.ensures) in
    let same : get_or l.opening.number c.from.result 0 ≡ get_or (take (length es + 1) l.opening.number) e.owner 0 =
    ap (λ (k : ℕ). get_or l.opening.number k 0) c.from.ensures ∙ sym (get_or-take (length es + 1) l.opening.number e.owner 0 below) in
    elim c.if-e-eq-NAME.branch [
      | put_opened-then-e-eq-NAME w ↦
          let p = w.put_name.ensures in
          let x = ap (λ (k : ℕ). l.out ++ map (relocate (length l.out) k) (contents K e.name)) same in
          rw (w.opening-is, w.out-is) (going-past I O l.auto.i hi c.at-e.ensures (eq-eqb w.if-e-eq-NAME.true) (p.0 ∙ x) p.1 p.2)
      | put_opened-else-e-eq-NAME w ↦
          rw (w.opening-is, w.out-is)
          (going-on I O l.auto.i hi c.at-e.ensures (ne_eqb w.if-e-eq-NAME.false) (omega arith) (omega (arith, c.len-i-end.ensures.1, c.len-i-end.ensures.0))
          (ap (λ (k : ℕ). owned_by k e) same) w.push.ensures w.len.ensures.0 refl refl refl)
    ]

pub put_opened-returns : goal.put_opened-returns
put_opened-returns t c =
    let I = c.loop-i.invariant in
    (pass-ends I.passing (omega (arith, c.loop-i-test.false, c.len-i-end.ensures.0)), I.laid, I.same)
