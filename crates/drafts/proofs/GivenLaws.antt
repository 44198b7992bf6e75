-- The desks that lists of calls give are those that are sound: what a desk's refusal by 20 rests on, both ways.
-- Assumes nothing.
use Rattle.std.proofs.Common.{◌≡◌, ◌≢◌, ℕ, zero, suc, ◌-◌, ◌≤◌, ◌<◌, true, false, cond, not, ◌&&◌, ◌||◌, eqb, leb, List, [], ◌∷◌, ◌++◌, append_assoc, map, drop, length, length-append, length-take, replicate, Ok, Err, Option, Some, None, unwrap_or, refl, sym, subst, ap, ◌∙◌, arith}
use Rattle.std.proofs.lemmas.List.{take-append-drop}
use Rattle.base.proofs.Tests.{bool_cases, eq-cases, eq-eqb, gt-leb, leb-gt, ne_eqb, neither_left, neither_right}
use Rattle.blocks.specs.Faults.{Clean, Faulty, Finding, entry_rows, first}
use Rattle.blocks.specs.Reading.{answer, Reading}
use Rattle.blocks.specs.declared.Schema.TheVariants.{Description}
use Rattle.blocks.specs.Refusals.{unless_refused}
use Rattle.blocks.specs.declared.Entry.{Entry}
use Rattle.drafts.proofs.HistoryLaws.{find-keep-other, find-without}
use Rattle.drafts.specs.declared.Call.TheVariants as call
use Rattle.drafts.specs.declared.Call.{Call}
use Rattle.drafts.specs.Draft.{Held, Kept, adding, after, answered, empty, find, keep, known, moved, run, with_entry, without, without_last}
use Rattle.drafts.specs.Listed.{Given, Grown, Sound, Standing}

-- ---- lists

append-none : {A : Type 0} (xs : List A) → xs ++ [] ≡ xs
append-none [] = refl
append-none (x ∷ xs) = rw (append-none xs)

-- ---- building a description, and taking it off

add-grown : (xs : List Entry) (e : Entry) (ys : List Entry) (ts : List Kept) → Grown (xs ++ (e ∷ ys))
    → after (record { draft = xs; stands = ts }) (call.Add e) ≡ record { draft = with_entry xs e; stands = ts }
unfolding after answered
add-grown xs e ys ts G =
    let few : leb 1008 (length xs) ≡ false = gt-leb (let f = G.few in let l = length-append xs (e ∷ ys) in omega arith) in
    rw (few, G.each xs e ys refl)

pub build : (xs ys : List Entry) (ts : List Kept) → Grown (xs ++ ys)
    → run (record { draft = xs; stands = ts }) (map call.Add ys) ≡ record { draft = xs ++ ys; stands = ts }
unfolding run
build xs [] ts G = rw (append-none xs)
build xs (e ∷ ys) ts G =
    let same : (xs ++ (e ∷ [])) ++ ys ≡ xs ++ (e ∷ ys) = rw append_assoc in
    ap (λ (m : Held). run m (map call.Add ys)) (add-grown xs e ys ts G) ∙ build (with_entry xs e) ys ts (rw same G) ∙ rw same

take-off : (xs : List Entry) (ts : List Kept) → length xs ≢ 0
    → after (record { draft = xs; stands = ts }) call.TakeOff ≡ record { draft = without_last xs; stands = ts }
unfolding after answered
take-off xs ts z = rw (ne_eqb z)

pub strip : (n : ℕ) (xs : List Entry) (ts : List Kept) → length xs ≡ n
    → run (record { draft = xs; stands = ts }) (replicate n call.TakeOff) ≡ record { draft = []; stands = ts }
unfolding run
strip zero [] ts z = refl
strip zero (x ∷ xs) ts z = absurd (omega arith)
strip (suc n) xs ts z =
    let l : length (without_last xs) ≡ n = let k = length-take (length xs - 1) xs in omega arith in
    ap (λ (m : Held). run m (replicate n call.TakeOff)) (take-off xs ts (λ q. omega arith)) ∙ strip n (without_last xs) ts l

run-append : (d : Held) (xs ys : List Call) → run d (xs ++ ys) ≡ run (run d xs) ys
unfolding run
run-append d [] ys = refl
run-append d (x ∷ xs) ys = run-append (after d x) xs ys

-- ---- stands

keep-new : (s : ℕ) (v : List Entry) (ts : List Kept) → find s ts ≡ None → keep s v ts ≡ ts ++ (record { number = s; entries = v } ∷ [])
unfolding find keep
keep-new s v [] h = refl
keep-new s v (t ∷ ts) h =
    bool_cases (eqb s t.number)
    (λ q. let h' = rw q at h in absurd (let z : ◌≡◌ {A = ℕ} 0 1 = cc in omega arith))
    (λ q. let h' = rw q at h in rw (q, keep-new s v ts h'))

-- what is not found is no stand's number
apart : (s : ℕ) (ts : List Kept) (u : Kept) (us : List Kept) → find s (ts ++ (u ∷ us)) ≡ None → s ≢ u.number
unfolding find
apart s [] u us h =
    bool_cases (eqb s u.number)
    (λ q. let h' = rw q at h in absurd (let z : ◌≡◌ {A = ℕ} 0 1 = cc in omega arith))
    (λ q z. let w : eqb s u.number ≡ true = eq-eqb z in absurd (let y : ◌≡◌ {A = ℕ} 0 1 = cc in omega arith))
apart s (t ∷ ts) u us h =
    bool_cases (eqb s t.number)
    (λ q. let h' = rw q at h in absurd (let z : ◌≡◌ {A = ℕ} 0 1 = cc in omega arith))
    (λ q. let h' = rw q at h in apart s ts u us h')

-- the number of a stand is none before it
new-number : (ts : List Kept) (u : Kept) (us : List Kept) → Standing (ts ++ (u ∷ us)) → find u.number ts ≡ None
unfolding find
new-number [] u us S = refl
new-number (t ∷ ts) u us S =
    let n : t.number ≢ u.number = apart t.number ts u us S.1 in
    rw (ne_eqb {m = u.number} {n = t.number} (λ q. n (sym q))) (new-number ts u us S.3)

standing-at : (ts : List Kept) (u : Kept) (us : List Kept) → Standing (ts ++ (u ∷ us)) → (u.number ≢ 0) × Grown u.entries
standing-at [] u us S = (S.0, S.2)
standing-at (t ∷ ts) u us S = standing-at ts u us S.3

-- ---- a list of calls for a desk

calls_for : Kept → List Call
calls_for t = map call.Add t.entries ++ (call.Name t.number ∷ replicate (length t.entries) call.TakeOff)

calls_for_all : List Kept → List Call
calls_for_all [] = []
calls_for_all (t ∷ ts) = calls_for t ++ calls_for_all ts

name-new : (v : List Entry) (ts : List Kept) (s : ℕ) → s ≢ 0 → find s ts ≡ None → length ts < 4
    → after (record { draft = v; stands = ts }) (call.Name s) ≡ record { draft = v; stands = ts ++ (record { number = s; entries = v } ∷ []) }
unfolding after answered
name-new v ts s z f l =
    let few : leb 4 (length ts) ≡ false = gt-leb l in
    rw (ne_eqb z, f, few, keep-new s v ts f)

one-stand : (ts : List Kept) (u : Kept) → u.number ≢ 0 → find u.number ts ≡ None → length ts < 4 → Grown u.entries
    → run (record { draft = []; stands = ts }) (calls_for u) ≡ record { draft = []; stands = ts ++ (u ∷ []) }
unfolding run calls_for
one-stand ts u z f l G =
    run-append (record { draft = []; stands = ts }) (map call.Add u.entries) (call.Name u.number ∷ replicate (length u.entries) call.TakeOff)
    ∙ ap (λ (m : Held). run m (call.Name u.number ∷ replicate (length u.entries) call.TakeOff)) (build [] u.entries ts G)
    ∙ ap (λ (m : Held). run m (replicate (length u.entries) call.TakeOff)) (name-new u.entries ts u.number z f l)
    ∙ strip (length u.entries) u.entries (ts ++ (u ∷ [])) refl

all-stands : (ts us : List Kept) → Standing (ts ++ us) → length (ts ++ us) ≤ 4
    → run (record { draft = []; stands = ts }) (calls_for_all us) ≡ record { draft = []; stands = ts ++ us }
unfolding run calls_for_all
all-stands ts [] S l = rw (append-none ts)
all-stands ts (u ∷ us) S l =
    let a = standing-at ts u us S in
    let n = length-append ts (u ∷ us) in
    let same : (ts ++ (u ∷ [])) ++ us ≡ ts ++ (u ∷ us) = rw append_assoc in
    run-append (record { draft = []; stands = ts }) (calls_for u) (calls_for_all us)
    ∙ ap (λ (m : Held). run m (calls_for_all us)) (one-stand ts u a.0 (new-number ts u us S) (omega arith) a.1)
    ∙ all-stands (ts ++ (u ∷ [])) us (rw same S) (rw same l) ∙ rw same

-- a sound desk is given by a list of calls
pub given-of-sound : (d : Held) → Sound d → Given d
given-of-sound d S =
    record {
      calls = calls_for_all d.stands ++ map call.Add d.draft;
      gives = run-append empty (calls_for_all d.stands) (map call.Add d.draft)
          ∙ ap (λ (m : Held). run m (map call.Add d.draft)) (all-stands [] d.stands S.stands S.few) ∙ build [] d.draft d.stands S.draft;
    }

-- ---- what lists of calls give is sound

-- what holds of a desk, and of the same moved on where the call is accepted, holds after the call
accepted-either : (P : Held → Type 0) (d m : Held) (r : Reading) → P d → ((n : ℕ) → r ≡ Ok n → P m) → P (unless_refused (λ e. d) r m)
accepted-either P d m (Ok n) p q = q n refl
accepted-either P d m (Err e) p q = p

after-accepted : (P : Held → Type 0) (d : Held) (c : Call) → P d → ((n : ℕ) → answered d c ≡ Ok n → P (moved d c)) → P (after d c)
unfolding after
after-accepted P d c p q = accepted-either P d (moved d c) (answered d c) p q

long : (x : Entry) (xs : List Entry) (c : Entry) (ys : List Entry) → 1 ≡ length ((x ∷ xs) ++ (c ∷ ys)) → ⊥
long x xs c ys h = let l = length-append (x ∷ xs) (c ∷ ys) in omega arith

-- a list with one more at its end, split at an entry: the last one, or one before it
split-last : {A : Type 0} (bs : List Entry) (b : Entry) (xs : List Entry) (c : Entry) (ys : List Entry) → bs ++ (b ∷ []) ≡ xs ++ (c ∷ ys)
    → (bs ≡ xs → b ≡ c → A) → ((zs : List Entry) → bs ≡ xs ++ (c ∷ zs) → A) → A
split-last [] b [] c ys h last before = last refl cc
split-last [] b (x ∷ xs) c ys h last before = absurd (long x xs c ys (ap length h))
split-last (a ∷ bs) b [] c ys h last before = before bs cc
split-last (a ∷ bs) b (x ∷ xs) c ys h last before =
    let t : bs ++ (b ∷ []) ≡ xs ++ (c ∷ ys) = cc in
    split-last bs b xs c ys t (λ q r. (last (cc) r)) (λ zs q. before zs cc)

-- an entry that is added is the one after those that are there
answer_total : (i a : ℕ) (f : Finding) {n : ℕ} → answer {A = ℕ} i a f ≡ Ok n → answer {A = ℕ} i a f ≡ Ok a
answer_total i a Clean h = refl
answer_total i a (Faulty k p) h = absurd (let z : ◌≡◌ {A = ℕ} 0 1 = cc in omega arith)

ok_total : (es : List Entry) (e : Entry) {n : ℕ} → adding es e ≡ Ok n → adding es e ≡ Ok (suc (length es))
unfolding adding
ok_total es e h = answer_total 1 (suc (length es)) (first (entry_rows Description (with_entry es e) (suc (length es)))) h

grown-more : (es : List Entry) (e : Entry) {n : ℕ} → Grown es → leb 1008 (length es) ≡ false → adding es e ≡ Ok n → Grown (with_entry es e)
unfolding adding
grown-more es e G few ok =
    record {
      few = let l = length-append es (e ∷ []) in let f = leb-gt few in omega arith;
      each = λ xs c ys h. split-last es e xs c ys h (λ q r. rw (← q, ← r) (ok_total es e ok)) (λ zs q. G.each xs c zs q);
    }

grown-less : (es : List Entry) → Grown es → Grown (without_last es)
grown-less es G =
    record {
      few = let l = length-take (length es - 1) es in let f = G.few in omega arith;
      each = λ xs c ys h. G.each xs c (ys ++ drop (length es - 1) es)
          (sym (take-append-drop (length es - 1) es) ∙ rw h (rw append_assoc));
    }

find-grown : (s : ℕ) (ts : List Kept) {v : List Entry} → Standing ts → find s ts ≡ Some v → Grown v
unfolding find
find-grown s [] S h = absurd (let z : ◌≡◌ {A = ℕ} 0 1 = cc in omega arith)
find-grown s (t ∷ ts) S h =
    bool_cases (eqb s t.number)
    (λ q. let h' = rw q at h in let e : t.entries ≡ _ = cc in rw e at S.2)
    (λ q. let h' = rw q at h in find-grown s ts S.3 h')

standing-keep : (s : ℕ) (v : List Entry) (ts : List Kept) → s ≢ 0 → Grown v → Standing ts → Standing (keep s v ts)
unfolding keep find
standing-keep s v [] z G S = (z, refl, G, tt)
standing-keep s v (t ∷ ts) z G S =
    eq-cases s t.number
    (λ q. rw (eq-eqb q) (z, rw q S.1, G, S.3))
    (λ q. rw (ne_eqb q) (S.0, find-keep-other t.number s v ts (λ r. q (sym r)) ∙ S.1, S.2, standing-keep s v ts z G S.3))

standing-without : (s : ℕ) (ts : List Kept) → Standing ts → Standing (without s ts)
unfolding without
standing-without s [] S = tt
standing-without s (t ∷ ts) S =
    eq-cases s t.number
    (λ q. rw (eq-eqb q) S.3)
    (λ q. rw (ne_eqb q) (S.0, find-without t.number s ts (λ r. q (sym r)) ∙ S.1, S.2, standing-without s ts S.3))

length-keep : (s : ℕ) (v : List Entry) (ts : List Kept) → length (keep s v ts) ≡ cond (known s ts) (length ts) (suc (length ts))
unfolding keep find
length-keep s v [] = refl
length-keep s v (t ∷ ts) =
    bool_cases (eqb s t.number) (λ q. rw q) (λ q. rw (q, length-keep s v ts) (bool_cases (known s ts) (λ r. rw r) (λ r. rw r)))

length-without : (s : ℕ) (ts : List Kept) → length (without s ts) ≤ length ts
unfolding without
length-without s [] = omega arith
length-without s (t ∷ ts) = let h = length-without s ts in bool_cases (eqb s t.number) (λ q. rw q (omega arith)) (λ q. rw q (omega arith))

kept-grown : (s : ℕ) (d : Held) → Sound d → (o : Option (List Entry)) → find s d.stands ≡ o → Grown (unwrap_or o d.draft)
kept-grown s d S None h = S.draft
kept-grown s d S (Some v) h = find-grown s d.stands S.stands h

no-entry : (xs : List Entry) (c : Entry) (ys : List Entry) → 0 ≡ length (xs ++ (c ∷ ys)) → ⊥
no-entry xs c ys h = let l = length-append xs (c ∷ ys) in omega arith

-- a call leaves a sound desk sound
pub sound-after : (d : Held) (c : Call) → Sound d → Sound (after d c)
unfolding answered
sound-after d (call.Add e) S =
    after-accepted Sound d (call.Add e) S
    (λ n h.
    bool_cases (leb 1008 (length d.draft))
    (λ q. let h' = rw q at h in absurd (let z : ◌≡◌ {A = ℕ} 0 1 = cc in omega arith))
    (λ q. let h' = rw q at h in record { draft = grown-more d.draft e S.draft q h'; few = S.few; stands = S.stands }))
sound-after d call.TakeOff S = after-accepted Sound d call.TakeOff S (λ n h. record { draft = grown-less d.draft S.draft; few = S.few; stands = S.stands })
sound-after d (call.Name s) S =
    after-accepted Sound d (call.Name s) S
    (λ n h.
    bool_cases (eqb s 0 || (not (known s d.stands) && leb 4 (length d.stands)))
    (λ q. let h' = rw q at h in absurd (let z : ◌≡◌ {A = ℕ} 0 1 = cc in omega arith))
    (λ q.
    let z : s ≢ 0 = λ e. let w : eqb s 0 ≡ true = eq-eqb e in let v = neither_left (eqb s 0) (not (known s d.stands) && leb 4 (length d.stands)) q in let y : ◌≡◌ {A = ℕ} 0 1 = cc in omega arith in
    let r = neither_right (eqb s 0) (not (known s d.stands) && leb 4 (length d.stands)) q in
    let l = length-keep s d.draft d.stands in
    let f = S.few in
    let few : length (keep s d.draft d.stands) ≤ 4 =
    bool_cases (known s d.stands) (λ k. let l' = rw k at l in omega arith) (λ k. let l' = rw k at l in let r' = rw k at r in let m = leb-gt r' in omega arith) in
    record { draft = S.draft; few = few; stands = standing-keep s d.draft d.stands z S.draft S.stands }))
sound-after d (call.GoBack s) S =
    after-accepted Sound d (call.GoBack s) S
    (λ n h. record { draft = kept-grown s d S (find s d.stands) refl; few = S.few; stands = S.stands })
sound-after d (call.Drop s) S =
    after-accepted Sound d (call.Drop s) S
    (λ n h. record { draft = S.draft; few = let l = length-without s d.stands in let f = S.few in omega arith; stands = standing-without s d.stands S.stands })

sound-run : (d : Held) (cs : List Call) → Sound d → Sound (run d cs)
unfolding run
sound-run d [] S = S
sound-run d (c ∷ cs) S = sound-run (after d c) cs (sound-after d c S)

sound-empty : Sound empty
sound-empty = record { draft = record { few = omega arith; each = λ xs c ys h. absurd (no-entry xs c ys (ap length h)) }; few = omega arith; stands = tt }

-- what a list of calls gives is sound
pub sound-of-given : (d : Held) → Given d → Sound d
sound-of-given d G = subst Sound G.gives (sound-run empty G.calls sound-empty)
