-- What one line of a file says at most is found alike in the same lines in another order.
use Rattle.std.proofs.Common.{◌≡◌, ℕ, zero, suc, ◌<◌, ⊎_elim, Bool, true, ◌==◌, ◌&&◌, ltb, leb, List, [], ◌∷◌, ◌++◌, length, take, get_or, Option, Some, None, All, Contains, refl, sym, ap, ◌∙◌, subst, arith, bytes_eq}
use Rattle.std.specs.List.{list_all, list_any}
use Rattle.std.specs.List.Sorted.{IsPermutation}
use Rattle.std.proofs.lemmas.Bool.{and_from, and_parts, cases_lt, eqb-true, false≢true, leb-true, ltb-true, or_cases}
use Rattle.std.proofs.lemmas.Bool.Decides.{Decides-eqb}
use Rattle.std.proofs.lemmas.List.{get_or-take, get_or_default, length-take-le}
use Rattle.std.proofs.lemmas.List.Elements.{All-cons, All-contains, All-nil, Contains-get_or}
use Rattle.std.proofs.lemmas.List.Folds.{list_any_at}
use Rattle.std.proofs.lemmas.List.Sorted.{Contains-permutation, IsPermutation-sym}
use Rattle.std.proofs.lemmas.Option.{cond_some, none-some, same_Some, unwrap_or-slice_get}
use Rattle.std.proofs.lemmas.Slice.Eq.{bytes_eq-Decides}
use Rattle.icu_collator_types.specs.declared.elements.Element.{Element}
use Rattle.icu_normalizer_core.specs.BuiltIn.{is_within}
use Rattle.icu_collator_core.specs.Weights.{Range}
use Rattle.icu_collator_core.specs.WeightRules.{are_disjoint}
use Rattle.collate_lines.specs.Record.{Record, nothing, class, mapping, compatibility, weights, range, digit, setting, Layer, root, tailoring, is_same_layer}
use Rattle.collate_lines.specs.Repeats.{is_second, record_at, setting_name}
use Rattle.collate_rules.specs.GivenWeights.{are_all_disjoint, given_ranges, ranges_of}
use Rattle.collate_rules.specs.Meaning.{class_in, compatibility_in, digit_in, elements_in, first_found, mapping_in, range_in, span_of}
use Rattle.collate_rules.proofs.lookups.FoundLemmas.{found_at}

-- ## What one line at most says

module _ {B : Type 0} (f : Record → Option B) where
  -- of two lines one at most says it
  abbrev pub SaysOnce : List Record → Type 0
  SaysOnce lines = (i j : ℕ) (u v : B) → i < j → j < length lines
      → f (record_at lines i) ≡ Some u → f (record_at lines j) ≡ Some v → ⊥

  pub contains_at : (lines : List Record) (i : ℕ) → i < length lines → Contains lines (record_at lines i)
  contains_at lines i within =
      subst (Contains lines) (sym (unwrap_or-slice_get lines i nothing)) (Contains-get_or lines i nothing within)

  pub place_of : (lines : List Record) (s : Record) → Contains lines s → (k : ℕ) × (k < length lines) × (record_at lines k ≡ s)
  place_of lines s c =
      (c.0, c.1, unwrap_or-slice_get lines c.0 nothing ∙ get_or_default lines c.0 nothing s c.1 ∙ c.2)

  none_by_head : (s : Record) (lines : List Record) → (first_found f lines ≡ None → All (λ t. f t ≡ None) lines)
      → (o : Option B) → f s ≡ o → (elim o as (λ _. Option B) [ Some z ↦ Some z | None ↦ first_found f lines ]) ≡ None
      → All (λ t. f t ≡ None) (s ∷ lines)
  none_by_head s lines later (Some z) e found = absurd (none-some z (sym found))
  none_by_head s lines later None e found = All-cons (λ t. f t ≡ None) s lines e (later found)

  pub none_found : (lines : List Record) → first_found f lines ≡ None → All (λ t. f t ≡ None) lines
  none_found [] e = All-nil (λ t. f t ≡ None)
  none_found (s ∷ lines) e = none_by_head s lines (none_found lines) (f s) refl e

  -- where it is found in lines, it is found in others that have all of them
  pub not_lost : (a b : List Record) (u : B) → ((s : Record) → Contains a s → Contains b s)
      → first_found f a ≡ Some u → first_found f b ≡ None → ⊥
  not_lost a b u within found none =
      let w = found_at f a u found in
      let here = All-contains (λ t. f t ≡ None) b (record_at a w.0) (none_found b none) (within (record_at a w.0) (contains_at a w.0 w.1)) in
      none-some u (sym here ∙ w.2)

  pub same_line : (a : List Record) → SaysOnce a → (i k : ℕ) (u v : B) → i < length a → k < length a
      → f (record_at a i) ≡ Some u → f (record_at a k) ≡ Some v → u ≡ v
  same_line a once i k u v before within e g =
      ⊎_elim
      (λ less. absurd (once i k u v less within e g))
      (λ most. ⊎_elim
      (λ more. absurd (once k i v u more before g e))
      (λ least. let same : i ≡ k = omega arith in same_Some u v (sym e ∙ ap (λ (n : ℕ). f (record_at a n)) same ∙ g))
      (cases_lt k i))
      (cases_lt i k)

  -- what one line at most says is found alike in any order
  pub found_alike : (a b : List Record) → IsPermutation a b → SaysOnce a → first_found f a ≡ first_found f b
  found_alike a b moved once = by (first_found f a) (first_found f b) refl refl
    where
      there : (s : Record) → Contains a s → Contains b s
      there s c = Contains-permutation a b s moved c

      back : (s : Record) → Contains b s → Contains a s
      back s c = Contains-permutation b a s (IsPermutation-sym a b moved) c

      by : (o p : Option B) → first_found f a ≡ o → first_found f b ≡ p → o ≡ p
      by None None d e = refl
      by None (Some v) d e = absurd (not_lost b a v back e d)
      by (Some u) None d e = absurd (not_lost a b u there d e)
      by (Some u) (Some v) d e =
          let w = found_at f a u d in
          let x = found_at f b v e in
          let k = place_of a (record_at b x.0) (back (record_at b x.0) (contains_at b x.0 x.1)) in
          ap (λ (z : B). Some z) (same_line a once w.0 k.0 u v w.1 k.1 w.2 (ap f k.2 ∙ x.2))

  -- Lines of which none is like an earlier one, where two that both say it are alike.
  pub says_once : (alike : Record → Record → Bool) → ((s t : Record) (u v : B) → f s ≡ Some u → f t ≡ Some v → alike s t ≡ true)
      → (lines : List Record)
      → ((j : ℕ) → j < length lines → list_any (λ s. alike s (record_at lines j)) (take j lines) ≡ true → ⊥)
      → SaysOnce lines
  says_once alike tell lines new i j u v less within e g =
      let p : Record → Bool = λ s. alike s (record_at lines j) in
      let long : length (take j lines) ≡ j = length-take-le j lines (omega arith) in
      let read : get_or (take j lines) i nothing ≡ record_at lines i =
      get_or-take j lines i nothing less ∙ sym (unwrap_or-slice_get lines i nothing) in
      new j within (list_any_at p (take j lines) i nothing (omega arith) (ap p read ∙ tell (record_at lines i) (record_at lines j) u v e g))

-- ## Lines that are for the same thing

own : (c : ℕ) → (c == c) ≡ true
own c = (Decides-eqb c c).1 refl

own_list : (cs : List ℕ) → bytes_eq cs cs ≡ true
own_list cs = (bytes_eq-Decides cs cs).1 refl

class_some : (c k : ℕ) (s : Record) → class_in c s ≡ Some k → s ≡ class c k
class_some c k (class d l) e = let w = cond_some (c == d) l k e in let same : c ≡ d = eqb-true c d w.0 in let equal : l ≡ k = w.1 in cc
class_some c k _ e = absurd (none-some k e)

pub class_second : (c : ℕ) (s t : Record) (k l : ℕ) → class_in c s ≡ Some k → class_in c t ≡ Some l → is_second s t ≡ true
class_second c s t k l e g = rw (class_some c k s e, class_some c l t g) (own c)

mapping_some : (c : ℕ) (ds : List ℕ) (s : Record) → mapping_in c s ≡ Some ds → (x : Bool) × (s ≡ mapping c ds x)
mapping_some c ds (mapping d es x) e = let w = cond_some (c == d) es ds e in let same : c ≡ d = eqb-true c d w.0 in let equal : es ≡ ds = w.1 in (x, cc)
mapping_some c ds _ e = absurd (none-some ds e)

pub mapping_second : (c : ℕ) (s t : Record) (ds es : List ℕ) → mapping_in c s ≡ Some ds → mapping_in c t ≡ Some es → is_second s t ≡ true
mapping_second c s t ds es e g = rw ((mapping_some c ds s e).1, (mapping_some c es t g).1) (own c)

compatibility_some : (c : ℕ) (ds : List ℕ) (s : Record) → compatibility_in c s ≡ Some ds → s ≡ compatibility c ds
compatibility_some c ds (compatibility d es) e = let w = cond_some (c == d) es ds e in let same : c ≡ d = eqb-true c d w.0 in let equal : es ≡ ds = w.1 in cc
compatibility_some c ds _ e = absurd (none-some ds e)

pub compatibility_second : (c : ℕ) (s t : Record) (ds es : List ℕ) → compatibility_in c s ≡ Some ds → compatibility_in c t ≡ Some es → is_second s t ≡ true
compatibility_second c s t ds es e g = rw (compatibility_some c ds s e, compatibility_some c es t g) (own c)

digit_some : (c v : ℕ) (s : Record) → digit_in c s ≡ Some v → s ≡ digit c v
digit_some c v (digit d w) e = let x = cond_some (c == d) w v e in let same : c ≡ d = eqb-true c d x.0 in let equal : w ≡ v = x.1 in cc
digit_some c v _ e = absurd (none-some v e)

pub digit_second : (c : ℕ) (s t : Record) (v w : ℕ) → digit_in c s ≡ Some v → digit_in c t ≡ Some w → is_second s t ≡ true
digit_second c s t v w e g = rw (digit_some c v s e, digit_some c w t g) (own c)

one_layer : (a b : Layer) → is_same_layer a b ≡ true → a ≡ b
one_layer root root e = refl
one_layer root tailoring e = absurd (false≢true e)
one_layer tailoring root e = absurd (false≢true e)
one_layer tailoring tailoring e = refl

own_layer : (a : Layer) → is_same_layer a a ≡ true
own_layer root = refl
own_layer tailoring = refl

elements_some : (layer : Layer) (prefix text : List ℕ) (es : List Element) (s : Record) → elements_in layer prefix text s ≡ Some es
    → s ≡ weights layer prefix text es
elements_some layer prefix text es (weights other before key fs) e =
    let w = cond_some (is_same_layer layer other && bytes_eq prefix before && bytes_eq text key) fs es e in
    let both = and_parts (is_same_layer layer other && bytes_eq prefix before) (bytes_eq text key) w.0 in
    let first = and_parts (is_same_layer layer other) (bytes_eq prefix before) both.0 in
    let of_layer : layer ≡ other = one_layer layer other first.0 in
    let of_prefix : prefix ≡ before = (bytes_eq-Decides prefix before).0 first.1 in
    let of_text : text ≡ key = (bytes_eq-Decides text key).0 both.1 in
    let equal : fs ≡ es = w.1 in
    cc
elements_some layer prefix text es _ e = absurd (none-some es e)

pub elements_second : (layer : Layer) (prefix text : List ℕ) (s t : Record) (es fs : List Element)
    → elements_in layer prefix text s ≡ Some es → elements_in layer prefix text t ≡ Some fs → is_second s t ≡ true
elements_second layer prefix text s t es fs e g =
    rw (elements_some layer prefix text es s e, elements_some layer prefix text fs t g)
    (and_from (is_same_layer layer layer && bytes_eq prefix prefix) (bytes_eq text text)
    (and_from (is_same_layer layer layer) (bytes_eq prefix prefix) (own_layer layer) (own_list prefix)) (own_list text))

-- a line sets the setting of a name
abbrev pub Sets : List ℕ → Record → Type 0
Sets name (setting s) = setting_name s ≡ name
Sets name _ = ⊥

sets_second : (name : List ℕ) (s t : Record) → Sets name s → Sets name t → is_second s t ≡ true
sets_second name (setting s) (setting t) h k = (bytes_eq-Decides (setting_name s) (setting_name t)).1 (h ∙ sym k)
sets_second name (setting s) _ h k = absurd k
sets_second name _ t h k = absurd h

-- what sets of a name say is said by lines for the same thing
pub setting_second : {B : Type 0} (f : Record → Option B) (name : List ℕ) → ((s : Record) (u : B) → f s ≡ Some u → Sets name s)
    → (s t : Record) (u v : B) → f s ≡ Some u → f t ≡ Some v → is_second s t ≡ true
setting_second f name named s t u v e g = sets_second name s t (named s u e) (named t v g)

-- ## Ranges

within_apart : (r s : Range) (c : ℕ) → are_disjoint r s ≡ true → is_within r.first r.last c ≡ true → is_within s.first s.last c ≡ true → ⊥
within_apart r s c apart e g =
    let low = and_parts (leb r.first c) (leb c r.last) e in
    let high = and_parts (leb s.first c) (leb c s.last) g in
    let a = leb-true _ _ low.0 in let b = leb-true _ _ low.1 in
    let d = leb-true _ _ high.0 in let h = leb-true _ _ high.1 in
    ⊎_elim
    (λ before. let lt = ltb-true _ _ before in omega arith)
    (λ behind. let lt = ltb-true _ _ behind in omega arith)
    (or_cases (ltb r.last s.first) (ltb s.last r.first) apart)

-- a line's range that holds a character, before other ranges
range_head : (c : ℕ) (s : Record) (rest : List Range) (u : Range) → range_in c s ≡ Some u → are_all_disjoint (ranges_of s ++ rest) ≡ true
    → (is_within u.first u.last c ≡ true) × (list_all (are_disjoint u) rest ≡ true)
range_head c (range r) rest u e apart =
    let w = cond_some (is_within r.first r.last c) (span_of r) u e in
    let both = and_parts (list_all (are_disjoint (span_of r)) rest) (are_all_disjoint rest) apart in
    let here : span_of r ≡ u = w.1 in
    (subst (λ (x : Range). is_within x.first x.last c ≡ true) here w.0, subst (λ (x : Range). list_all (are_disjoint x) rest ≡ true) here both.0)
range_head c _ rest u e apart = absurd (none-some u e)

range_tail : (s : Record) (rest : List Range) → are_all_disjoint (ranges_of s ++ rest) ≡ true → are_all_disjoint rest ≡ true
range_tail (range r) rest apart = (and_parts (list_all (are_disjoint (span_of r)) rest) (are_all_disjoint rest) apart).1
range_tail _ rest apart = apart

-- a range that is apart from all others, of a character that another one holds
list_head : (p : Range → Bool) (c : ℕ) (s : Record) (rest : List Range) (v : Range) → range_in c s ≡ Some v → list_all p (ranges_of s ++ rest) ≡ true
    → (is_within v.first v.last c ≡ true) × (p v ≡ true)
list_head p c (range r) rest v e all =
    let w = cond_some (is_within r.first r.last c) (span_of r) v e in
    let both = and_parts (p (span_of r)) (list_all p rest) all in
    let here : span_of r ≡ v = w.1 in
    (subst (λ (x : Range). is_within x.first x.last c ≡ true) here w.0, subst (λ (x : Range). p x ≡ true) here both.0)
list_head p c _ rest v e all = absurd (none-some v e)

list_tail : (p : Range → Bool) (s : Record) (rest : List Range) → list_all p (ranges_of s ++ rest) ≡ true → list_all p rest ≡ true
list_tail p (range r) rest all = (and_parts (p (span_of r)) (list_all p rest) all).1
list_tail p _ rest all = all

other_range : (p : Range → Bool) (c : ℕ) (lines : List Record) (j : ℕ) (v : Range) → list_all p (given_ranges lines) ≡ true → j < length lines
    → range_in c (record_at lines j) ≡ Some v → (is_within v.first v.last c ≡ true) × (p v ≡ true)
other_range p c [] j v all within e = absurd (omega arith)
other_range p c (s ∷ lines) zero v all within e = list_head p c s (given_ranges lines) v e all
other_range p c (s ∷ lines) (suc j) v all within e =
    other_range p c lines j v (list_tail p s (given_ranges lines) all) (omega arith) e

-- one line at most gives the range that holds a character
pub range_once : (c : ℕ) (lines : List Record) → are_all_disjoint (given_ranges lines) ≡ true → SaysOnce (range_in c) lines
range_once c [] apart i j u v less within e g = absurd (omega arith)
range_once c (s ∷ lines) apart zero zero u v less within e g = absurd (omega arith)
range_once c (s ∷ lines) apart zero (suc j) u v less within e g =
    let here = range_head c s (given_ranges lines) u e apart in
    let there = other_range (are_disjoint u) c lines j v here.1 (omega arith) g in
    within_apart u v c there.1 here.0 there.0
range_once c (s ∷ lines) apart (suc i) zero u v less within e g = absurd (omega arith)
range_once c (s ∷ lines) apart (suc i) (suc j) u v less within e g =
    range_once c lines (range_tail s (given_ranges lines) apart) i j u v (omega arith) (omega arith) e g
