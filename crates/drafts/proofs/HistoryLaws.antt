-- Going back to a stand yields what was held when its name was last given.
-- Assumes nothing.
use Rattle.std.proofs.Common.{◌≡◌, ◌≢◌, ℕ, true, eqb, List, [], ◌∷◌, length, Ok, Err, Some, refl, sym, ◌∙◌}
use Rattle.base.proofs.Tests.{bool_cases, eq-cases, eq-eqb, eqb-self, ne_eqb}
use Rattle.blocks.specs.Reading.{Reading}
use Rattle.blocks.specs.Refusals.{unless_refused}
use Rattle.blocks.specs.declared.Entry.{Entry}
use Rattle.drafts.specs.declared.Call.TheVariants as call
use Rattle.drafts.specs.declared.Call.{Call}
use Rattle.drafts.specs.Draft.{Held, Kept, after, answered, find, keep, known, moved, run, without}
use Rattle.drafts.specs.Listed.{AllLeave, History, leaves}

-- ---- stands

pub find-kept : (s : ℕ) (v : List Entry) (ts : List Kept) → find s (keep s v ts) ≡ Some v
unfolding find keep
find-kept s v [] = rw (eqb-self s)
find-kept s v (t ∷ ts) =
    bool_cases (eqb s t.number) (λ q. rw (q, find, eqb-self s)) (λ q. rw (q, find, q) (find-kept s v ts))

pub find-keep-other : (s r : ℕ) (v : List Entry) (ts : List Kept) → s ≢ r → find s (keep r v ts) ≡ find s ts
unfolding find keep
find-keep-other s r v [] n = rw (ne_eqb n)
find-keep-other s r v (t ∷ ts) n =
    eq-cases r t.number
    (λ z. let o : s ≢ t.number = λ q. n (q ∙ sym z) in rw (eq-eqb z, find, ne_eqb n, ne_eqb o))
    (λ z. rw (ne_eqb z, find, find-keep-other s r v ts n))

pub find-without : (s r : ℕ) (ts : List Kept) → s ≢ r → find s (without r ts) ≡ find s ts
unfolding find without
find-without s r [] n = refl
find-without s r (t ∷ ts) n =
    eq-cases r t.number
    (λ z. let o : s ≢ t.number = λ q. n (q ∙ sym z) in rw (eq-eqb z, ne_eqb o))
    (λ z. rw (ne_eqb z, find, find-without s r ts n))

-- ---- calls

-- what holds of a desk and of the same moved on, holds after a call
either : (P : Held → Type 0) (d m : Held) (r : Reading) → P d → P m → P (unless_refused (λ e. d) r m)
either P d m (Ok n) p q = q
either P d m (Err e) p q = p

pub after-either : (P : Held → Type 0) (d : Held) (c : Call) → P d → P (moved d c) → P (after d c)
unfolding after
after-either P d c p q = either P d (moved d c) (answered d c) p q

-- a call that neither gives nor drops a number leaves what is kept under it
find-moved : (s : ℕ) (d : Held) (c : Call) → leaves s c → find s (moved d c).stands ≡ find s d.stands
find-moved s d (call.Add e) n = refl
find-moved s d call.TakeOff n = refl
find-moved s d (call.Name t) n = find-keep-other s t d.draft d.stands n
find-moved s d (call.GoBack t) n = refl
find-moved s d (call.Drop t) n = find-without s t d.stands n

find-run : (s : ℕ) (d : Held) (cs : List Call) → AllLeave s cs → find s (run d cs).stands ≡ find s d.stands
unfolding run
find-run s d [] h = refl
find-run s d (c ∷ cs) h =
    find-run s (after d c) cs h.1 ∙ after-either (λ m. find s m.stands ≡ find s d.stands) d c refl (find-moved s d c h.0)

-- ---- the promise

known-found : {v : List Entry} (s : ℕ) (ts : List Kept) → find s ts ≡ Some v → known s ts ≡ true
known-found s ts e = rw e

-- a stand that was given and is neither given nor dropped since
pub history : (d : Held) (s n : ℕ) (later : List Call) → answered d (call.Name s) ≡ Ok n → AllLeave s later → History d s later
unfolding answered after
history d s n later ok h =
    let named : after d (call.Name s) ≡ moved d (call.Name s) = rw (after, ok) in
    let found : find s (run (after d (call.Name s)) later).stands ≡ Some d.draft =
    find-run s (after d (call.Name s)) later h ∙ rw named (find-kept s d.draft d.stands) in
    let back = known-found s (run (after d (call.Name s)) later).stands found in
    let told : answered (run (after d (call.Name s)) later) (call.GoBack s) ≡ Ok (length d.draft) = rw (answered, back, found) in
    record {
      accepted = told;
      yields = rw (after, told, found);
    }
