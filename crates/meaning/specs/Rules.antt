-- The rules of the normal form, one by one, as what each looks for in a list of entries, for the records that keep a background. A rule
-- applies where it would change the list. Nothing here is made from a normal form.
-- Assumes nothing.
use Rattle.std.specs.Prelude.{◌<◌, ◌≤◌, ℕ, length, true, List, ◌≢◌, ◌⊎◌, ◌≡◌}
use Rattle.std.proofs.Math.Option.{some}
use Rattle.blocks.specs.Entries.{nth}
use Rattle.blocks.specs.declared.Entry.{Entry}
use Rattle.logic.specs.Background.{Background}

-- ---- entries

-- entry n is there, and has this kind, owner, name and number
pub record Is (es : List Entry) (n kind owner name number : ℕ) : Type 0 where
  pub from_one : 1 ≤ n
  pub to_last : n ≤ length es
  pub its-kind : (nth es n).kind ≡ kind
  pub its-owner : (nth es n).owner ≡ owner
  pub its-name : (nth es n).name ≡ name
  pub its-number : (nth es n).number ≡ number

-- two entries of kind k with one owner and name
pub record Twice (es : List Entry) (k : ℕ) : Type 0 where
  pub one : ℕ
  pub other : ℕ
  pub owner : ℕ
  pub name : ℕ
  pub number : ℕ
  pub number' : ℕ
  pub different : one ≢ other
  pub is_one : Is es one k owner name number
  pub is-other : Is es other k owner name number'

-- ---- impossible places

-- [N2] has and lacks of one property: place o
pub record HasAndLacks (es : List Entry) (o : ℕ) : Type 0 where
  pub having : ℕ
  pub lacking : ℕ
  pub property : ℕ
  pub number : ℕ
  pub number' : ℕ
  pub is-having : Is es having 1 o property number
  pub is-lacking : Is es lacking 2 o property number'

-- [N2] an entry that nothing fits: of place o
pub record SaysNothing (es : List Entry) (o : ℕ) : Type 0 where
  pub entry : ℕ
  pub name : ℕ
  pub number : ℕ
  pub is-nothing : Is es entry 6 o name number

-- [S9] both properties of a pair: place o has two properties that exclude each other
pub record HasBoth (b : Background) (es : List Entry) (o : ℕ) : Type 0 where
  pub one : ℕ
  pub other : ℕ
  pub property : ℕ
  pub property' : ℕ
  pub number : ℕ
  pub number' : ℕ
  pub excluding : b.excludes property property' ≡ true
  pub is_one : Is es one 1 o property number
  pub is-other : Is es other 1 o property' number'

abbrev pub Clashes : Background → List Entry → ℕ → Type 0
Clashes b es o = HasAndLacks es o ⊎ (SaysNothing es o ⊎ HasBoth b es o)

-- [N3] more is asked than allowed: at place o
pub record Crosses (es : List Entry) (o : ℕ) : Type 0 where
  pub asking : ℕ
  pub allowing : ℕ
  pub link : ℕ
  pub n : ℕ
  pub m : ℕ
  pub is-asking : Is es asking 3 o link n
  pub is-allowing : Is es allowing 4 o link m
  pub less : m < n

-- [S2] at least 2 of a single link: at place o more are asked for than the cap of a link allows
pub record Exceeds (b : Background) (es : List Entry) (o : ℕ) : Type 0 where
  pub asking : ℕ
  pub link : ℕ
  pub n : ℕ
  pub m : ℕ
  pub is-asking : Is es asking 3 o link n
  pub capped : b.cap link ≡ some m
  pub less : m < n

abbrev pub Overasks : Background → List Entry → ℕ → Type 0
Overasks b es o = Crosses es o ⊎ Exceeds b es o

-- entry n is an 'every'
pub record IsEvery (es : List Entry) (n : ℕ) : Type 0 where
  pub owner : ℕ
  pub link : ℕ
  pub number : ℕ
  pub is-every : Is es n 5 owner link number

-- ---- the rules

-- [N1] 'every' entries of one owner and link merge
abbrev pub Merges : List Entry → Type 0
Merges es = Twice es 5

-- [N2] an impossible place goes with all below, and its owner's place gains at most 0 of the link
pub record GoesByClash (b : Background) (es : List Entry) : Type 0 where
  pub place : ℕ
  pub every : IsEvery es place
  pub clashes : Clashes b es place

-- [N3] a place that asks for more than it allows goes likewise
pub record GoesByCounts (b : Background) (es : List Entry) : Type 0 where
  pub place : ℕ
  pub every : IsEvery es place
  pub overasks : Overasks b es place

-- [N4] at most 0 removes the 'every' of its link
pub record RemovesEvery (es : List Entry) : Type 0 where
  pub bound : ℕ
  pub removed : ℕ
  pub owner : ℕ
  pub link : ℕ
  pub number : ℕ
  pub is_bound : Is es bound 4 owner link 0
  pub is_removed : Is es removed 5 owner link number

-- one entry of kind 6 alone
pub record AloneSix (es : List Entry) : Type 0 where
  pub alone : length es ≡ 1
  pub six : (nth es 1).kind ≡ 6

-- [N5] an impossible top becomes one entry of kind 6, to which the rule does not apply
pub record TopGoes (b : Background) (es : List Entry) : Type 0 where
  pub impossible : Clashes b es 0 ⊎ Overasks b es 0
  pub not-alone : AloneSix es → ⊥

-- [N6] of several at most of one link the smallest stays
abbrev pub SeveralMost : List Entry → Type 0
SeveralMost es = Twice es 4

-- [N7] of several at least of one link the largest stays
abbrev pub SeveralLeast : List Entry → Type 0
SeveralLeast es = Twice es 3

-- [N8] at least 0 goes
pub record LeastZero (es : List Entry) : Type 0 where
  pub entry : ℕ
  pub owner : ℕ
  pub link : ℕ
  pub is-least : Is es entry 3 owner link 0

-- [N9] an 'every' that owns nothing goes
pub record OwnsNothing (es : List Entry) : Type 0 where
  pub entry : ℕ
  pub every : IsEvery es entry
  pub owns_none : (n : ℕ) → 1 ≤ n → n ≤ length es → (nth es n).owner ≢ entry

-- [N10] equal entries become one
pub record Equal (es : List Entry) : Type 0 where
  pub one : ℕ
  pub other : ℕ
  pub kind : ℕ
  pub owner : ℕ
  pub name : ℕ
  pub number : ℕ
  pub different : one ≢ other
  pub is_one : Is es one kind owner name number
  pub is-other : Is es other kind owner name number

-- [N11] an implied lack goes: beside a property, the lack of one that it excludes
pub record ImpliedLack (b : Background) (es : List Entry) : Type 0 where
  pub having : ℕ
  pub lacking : ℕ
  pub owner : ℕ
  pub property : ℕ
  pub property' : ℕ
  pub number : ℕ
  pub number' : ℕ
  pub excluding : b.excludes property property' ≡ true
  pub is-having : Is es having 1 owner property number
  pub is-lacking : Is es lacking 2 owner property' number'

-- [N12] at most 1 or more of a single link goes: an at most that the cap of its link says
pub record ImpliedMost (b : Background) (es : List Entry) : Type 0 where
  pub entry : ℕ
  pub owner : ℕ
  pub link : ℕ
  pub n : ℕ
  pub m : ℕ
  pub is-most : Is es entry 4 owner link n
  pub capped : b.cap link ≡ some m
  pub said : m ≤ n

-- rule k applies to the entries; the tenth is that of equal entries, and two come with the background
pub data Applies (b : Background) : ℕ → List Entry → Type 0 where
  rule-1 : {es : List Entry} → Merges es → Applies b 1 es
  rule-2 : {es : List Entry} → GoesByClash b es → Applies b 2 es
  rule-3 : {es : List Entry} → GoesByCounts b es → Applies b 3 es
  rule-4 : {es : List Entry} → RemovesEvery es → Applies b 4 es
  rule-5 : {es : List Entry} → TopGoes b es → Applies b 5 es
  rule-6 : {es : List Entry} → SeveralMost es → Applies b 6 es
  rule-7 : {es : List Entry} → SeveralLeast es → Applies b 7 es
  rule-8 : {es : List Entry} → LeastZero es → Applies b 8 es
  rule-9 : {es : List Entry} → OwnsNothing es → Applies b 9 es
  rule-10 : {es : List Entry} → Equal es → Applies b 10 es
  rule-11 : {es : List Entry} → ImpliedLack b es → Applies b 11 es
  rule-12 : {es : List Entry} → ImpliedMost b es → Applies b 12 es
