-- Decomposed lists: what mapping steps leave of a text, and how its marks are put in order. A list is split at a starter
-- by `order_before`.
use Rattle.std.proofs.Common.{◌≡◌, ℕ, ◌<◌, true, false, cond, ltb, ◌&&◌, List, [], ◌∷◌, ◌++◌, refl, sym, ap, subst, ◌∙◌, arith, append_assoc}
use Rattle.std.proofs.lemmas.Bool.{cond_both}
use Rattle.std.proofs.lemmas.Bool.Decides.{nat_tests}
use Rattle.std.proofs.lemmas.List.Elements.{All-head, All-tail, recursion_from_All, All-from_recursion}
use Rattle.std.specs.Prelude.{◌≢◌}
use Rattle.std.specs.Char.{IsScalar}
use Rattle.std.specs.List.{All, AllByRecursion, flat_map}
use Rattle.icu_normalizer_core.specs.Canonical.{Canonical, IsDecomposing, Leaves, nothing, unmapped, mapped, put_in_order, marks_in_order, decomposed}
use Rattle.icu_normalizer_core.specs.Sameness.{AreSameCanonical}

-- ---- what mapping steps leave

-- both parts, one after the other
pub left_append : (step : ℕ → List ℕ) (xs ys ms ns : List ℕ) → Leaves step xs ms → Leaves step ys ns → Leaves step (xs ++ ys) (ms ++ ns)
left_append step xs ys ms ns nothing g = g
left_append step xs ys ms ns (unmapped c cs ks e h) g = unmapped c (cs ++ ys) (ks ++ ns) e (left_append step cs ys ks ns h g)
left_append step xs ys ms ns (mapped c d ds cs ks e h) g =
    mapped c d ds (cs ++ ys) _ e (subst (λ (w : List ℕ). Leaves step w (ks ++ ns)) (append_assoc (d ∷ ds) cs ys) (left_append step ((d ∷ ds) ++ cs) ys ks ns h g))

-- what is left of a text in two parts
pub record IsLeftInParts (step : ℕ → List ℕ) (xs ys ns : List ℕ) : Type 0 where
  pub front : List ℕ
  pub back : List ℕ
  pub of_front : Leaves step xs front
  pub of_back : Leaves step ys back
  pub whole : ns ≡ front ++ back

split_from : (step : ℕ → List ℕ) (xs ys zs ns : List ℕ) → zs ≡ xs ++ ys → Leaves step zs ns → IsLeftInParts step xs ys ns
split_from step [] ys zs ns e h = record { front = []; back = ns; of_front = nothing; of_back = subst (λ (w : List ℕ). Leaves step w ns) e h; whole = refl }
split_from step (x ∷ xs) ys zs ns e nothing = cc
split_from step (x ∷ xs) ys zs ns e (unmapped c cs ms u h) =
    let first : x ≡ c = cc
    in let rest = split_from step xs ys cs ms (cc) h
    in record {
      front = c ∷ rest.front;
      back = rest.back;
      of_front = subst (λ (w : ℕ). Leaves step (w ∷ xs) (c ∷ rest.front)) (sym first) (unmapped c xs rest.front u rest.of_front);
      of_back = rest.of_back;
      whole = ap (λ (w : List ℕ). c ∷ w) rest.whole;
    }
split_from step (x ∷ xs) ys zs ns e (mapped c d ds cs ms u h) =
    let first : x ≡ c = cc
    in let behind : cs ≡ xs ++ ys = cc
    in let rest = split_from step ((d ∷ ds) ++ xs) ys ((d ∷ ds) ++ cs) ms (cc (append_assoc (d ∷ ds) xs ys)) h
    in record {
      front = rest.front;
      back = rest.back;
      of_front = subst (λ (w : ℕ). Leaves step (w ∷ xs) rest.front) (sym first) (mapped c d ds xs rest.front u rest.of_front);
      of_back = rest.of_back;
      whole = rest.whole;
    }

pub left_split : (step : ℕ → List ℕ) (xs ys ns : List ℕ) → Leaves step (xs ++ ys) ns → IsLeftInParts step xs ys ns
left_split step xs ys ns h = split_from step xs ys (xs ++ ys) ns refl h

-- what is left of a text that begins with a mapped character is left of the text with its mapping
mapped_from : (step : ℕ → List ℕ) (c d : ℕ) (ds cs zs ns : List ℕ) → step c ≡ d ∷ ds → zs ≡ c ∷ cs → Leaves step zs ns → Leaves step ((d ∷ ds) ++ cs) ns
mapped_from step c d ds cs zs ns m e nothing = cc
mapped_from step c d ds cs zs ns m e (unmapped x xs ks u h) = let same : x ≡ c = cc in cc (ap step same)
mapped_from step c d ds cs zs ns m e (mapped x y ys xs ks u h) =
    let same : x ≡ c = cc in subst (λ (w : List ℕ). Leaves step w ks) (cc (ap step same)) h

pub left_mapped : (step : ℕ → List ℕ) (c d : ℕ) (ds cs ns : List ℕ) → step c ≡ d ∷ ds → Leaves step (c ∷ cs) ns → Leaves step ((d ∷ ds) ++ cs) ns
left_mapped step c d ds cs ns m h = mapped_from step c d ds cs (c ∷ cs) ns m refl h

-- what is left of a text that begins with a character that isn't mapped
pub record IsLeftAfter (step : ℕ → List ℕ) (c : ℕ) (cs ns : List ℕ) : Type 0 where
  pub rest : List ℕ
  pub of_rest : Leaves step cs rest
  pub whole : ns ≡ c ∷ rest

unmapped_from : (step : ℕ → List ℕ) (c : ℕ) (cs zs ns : List ℕ) → step c ≡ [] → zs ≡ c ∷ cs → Leaves step zs ns → IsLeftAfter step c cs ns
unmapped_from step c cs zs ns m e nothing = cc
unmapped_from step c cs zs ns m e (unmapped x xs ks u h) =
    let behind : xs ≡ cs = cc
    in record { rest = ks; of_rest = subst (λ (w : List ℕ). Leaves step w ks) behind h; whole = cc }
unmapped_from step c cs zs ns m e (mapped x y ys xs ks u h) = let same : x ≡ c = cc in cc (ap step same)

pub left_unmapped : (step : ℕ → List ℕ) (c : ℕ) (cs ns : List ℕ) → step c ≡ [] → Leaves step (c ∷ cs) ns → IsLeftAfter step c cs ns
left_unmapped step c cs ns m h = unmapped_from step c cs (c ∷ cs) ns m refl h

-- steps leave one list
one_from : (step : ℕ → List ℕ) (xs ys ms ns : List ℕ) → xs ≡ ys → Leaves step xs ms → Leaves step ys ns → ms ≡ ns
one_from step xs ys ms ns e nothing nothing = refl
one_from step xs ys ms ns e nothing (unmapped c cs ks u h) = cc
one_from step xs ys ms ns e nothing (mapped c d ds cs ks u h) = cc
one_from step xs ys ms ns e (unmapped c cs ks u h) g =
    let other = unmapped_from step c cs ys ns u (sym e) g
    in cc (one_from step cs cs ks other.rest refl h other.of_rest, other.whole)
one_from step xs ys ms ns e (mapped c d ds cs ks u h) g =
    one_from step _ _ ks ns refl h (mapped_from step c d ds cs ys ns u (sym e) g)

pub left_one : (step : ℕ → List ℕ) (xs ms ns : List ℕ) → Leaves step xs ms → Leaves step xs ns → ms ≡ ns
left_one step xs ms ns h g = one_from step xs xs ms ns refl h g

-- what is left of a text is its full lists
pub left_full : (canonical : Canonical) (xs : List ℕ) → IsDecomposing canonical → All IsScalar xs → Leaves canonical.step xs (flat_map canonical.full xs)
left_full canonical [] d s = nothing
left_full canonical (x ∷ xs) d s =
    left_append canonical.step (x ∷ []) xs (canonical.full x) (flat_map canonical.full xs) (d.ends x (All-head IsScalar x xs s)) (left_full canonical xs d (All-tail IsScalar x xs s))

-- ---- marks in order

-- a starter stays where it is put
pub put_starter : (class : ℕ → ℕ) (c : ℕ) (ns : List ℕ) → class c ≡ 0 → put_in_order class c ns ≡ c ∷ ns
unfolding put_in_order
put_starter class c [] h = refl
put_starter class c (n ∷ ns) h = grind (arith, nat_tests)

-- nothing is put after a starter
pub put_before : (class : ℕ → ℕ) (c d : ℕ) (ns ms : List ℕ) → class d ≡ 0
    → put_in_order class c (ns ++ d ∷ ms) ≡ put_in_order class c ns ++ d ∷ ms
unfolding put_in_order
put_before class c d [] ms h = grind (arith, nat_tests)
put_before class c d (n ∷ ns) ms h = grind (arith, nat_tests, put_before class c d ns ms h)

-- what stands before a starter and what stands after it are each put in order alone
pub order_before : (class : ℕ → ℕ) (d : ℕ) (ns ms : List ℕ) → class d ≡ 0
    → marks_in_order class (ns ++ d ∷ ms) ≡ marks_in_order class ns ++ d ∷ marks_in_order class ms
unfolding marks_in_order
order_before class d [] ms h = put_starter class d (marks_in_order class ms) h
order_before class d (n ∷ ns) ms h =
    ap (put_in_order class n) (order_before class d ns ms h) ∙ put_before class n d (marks_in_order class ns) (marks_in_order class ms) h

-- two marks of different classes are put in order in either turn
pub put_swapped : (class : ℕ → ℕ) (c d : ℕ) (es : List ℕ) → 0 < class c → 0 < class d → class c ≢ class d
    → put_in_order class c (put_in_order class d es) ≡ put_in_order class d (put_in_order class c es)
unfolding put_in_order
put_swapped class c d [] hc hd ne = grind (arith, nat_tests)
put_swapped class c d (e ∷ es) hc hd ne = grind (arith, nat_tests, put_swapped class c d es hc hd ne)

-- a list in which two such neighbours are exchanged has the same marks in order
pub order_swapped : (class : ℕ → ℕ) (front back : List ℕ) (c d : ℕ) → 0 < class c → 0 < class d → class c ≢ class d
    → marks_in_order class (front ++ c ∷ d ∷ back) ≡ marks_in_order class (front ++ d ∷ c ∷ back)
unfolding marks_in_order
order_swapped class [] back c d hc hd ne = put_swapped class c d (marks_in_order class back) hc hd ne
order_swapped class (x ∷ front) back c d hc hd ne = ap (put_in_order class x) (order_swapped class front back c d hc hd ne)

-- ---- scalar values

abbrev pub AreScalar : List ℕ → Type 0
AreScalar cs = AllByRecursion IsScalar cs

-- what holds of each item of two lists holds of both in a row
pub all_append : {X : Type 0} (P : X → Type 0) (xs ys : List X) → AllByRecursion P xs → AllByRecursion P ys → AllByRecursion P (xs ++ ys)
all_append P [] ys h g = g
all_append P (x ∷ xs) ys h g = (h.0, all_append P xs ys h.1 g)

-- mappings of scalar values leave scalar values
leaves_scalars : (step : ℕ → List ℕ) (cs xs : List ℕ) → ((c : ℕ) → IsScalar c → All IsScalar (step c)) → AreScalar cs → Leaves step cs xs → AreScalar xs
leaves_scalars step cs xs s h nothing = tt
leaves_scalars step cs xs s h (unmapped c ds ys e l) = (h.0, leaves_scalars step ds ys s h.1 l)
leaves_scalars step cs xs s h (mapped c d ds es ys e l) =
    let first : AreScalar (d ∷ ds) = subst AreScalar e (recursion_from_All IsScalar (step c) (s c h.0))
    in leaves_scalars step ((d ∷ ds) ++ es) ys s (all_append IsScalar (d ∷ ds) es first h.1) l

-- full lists, and marks in order, have scalar values alone
pub full_scalars : (canonical : Canonical) (cs : List ℕ) → IsDecomposing canonical → AreScalar cs → AreScalar (flat_map canonical.full cs)
full_scalars canonical [] d h = tt
full_scalars canonical (c ∷ cs) d h =
    all_append IsScalar (canonical.full c) (flat_map canonical.full cs)
    (leaves_scalars canonical.step (c ∷ []) (canonical.full c) d.scalars (h.0, tt) (d.ends c h.0)) (full_scalars canonical cs d h.1)

pub put_scalars : (class : ℕ → ℕ) (c : ℕ) (ds : List ℕ) → IsScalar c → AreScalar ds → AreScalar (put_in_order class c ds)
unfolding put_in_order
put_scalars class c [] s h = (s, tt)
put_scalars class c (d ∷ ds) s h =
    cond_both (ltb 0 (class d) && ltb (class d) (class c)) (d ∷ put_in_order class c ds) (c ∷ d ∷ ds) AreScalar (λ _. (h.0, put_scalars class c ds s h.1)) (λ _. (s, h))

pub order_scalars : (class : ℕ → ℕ) (cs : List ℕ) → AreScalar cs → AreScalar (marks_in_order class cs)
unfolding marks_in_order
order_scalars class [] h = tt
order_scalars class (c ∷ cs) h = put_scalars class c (marks_in_order class cs) h.0 (order_scalars class cs h.1)

-- the decomposed list of scalar values has scalar values
pub decomposed_scalars : (canonical : Canonical) (text : List ℕ) → IsDecomposing canonical → AreScalar text → AreScalar (decomposed canonical text)
unfolding decomposed
decomposed_scalars canonical text d h = order_scalars canonical.class (flat_map canonical.full text) (full_scalars canonical text d h)

pub decomposed_all_scalars : (canonical : Canonical) (text : List ℕ) → IsDecomposing canonical → All IsScalar text → All IsScalar (decomposed canonical text)
decomposed_all_scalars canonical text d h =
    All-from_recursion IsScalar (decomposed canonical text) (decomposed_scalars canonical text d (recursion_from_All IsScalar text h))

-- ---- characters that are not mapped

-- no character of a list is mapped
abbrev pub AreUnmapped : Canonical → List ℕ → Type 0
AreUnmapped canonical [] = Unit {0}
AreUnmapped canonical (c ∷ cs) = (canonical.step c ≡ []) × AreUnmapped canonical cs

-- what is left is not mapped
pub unmapped_left : (canonical : Canonical) (xs ns : List ℕ) → Leaves canonical.step xs ns → AreUnmapped canonical ns
unmapped_left canonical xs ns nothing = tt
unmapped_left canonical xs ns (unmapped c cs ms e h) = (e, unmapped_left canonical cs ms h)
unmapped_left canonical xs ns (mapped c d ds cs ms e h) = unmapped_left canonical ((d ∷ ds) ++ cs) ms h

-- putting in order keeps it
put_unmapped : (canonical : Canonical) (c : ℕ) (ns : List ℕ) → canonical.step c ≡ [] → AreUnmapped canonical ns
    → AreUnmapped canonical (put_in_order canonical.class c ns)
unfolding put_in_order
put_unmapped canonical c [] h hs = (h, tt)
put_unmapped canonical c (d ∷ ds) h hs =
    elim (ltb 0 (canonical.class d) && ltb (canonical.class d) (canonical.class c)) as (λ b. AreUnmapped canonical (cond b (d ∷ put_in_order canonical.class c ds) (c ∷ d ∷ ds))) [
      | true ↦ (hs.0, put_unmapped canonical c ds h hs.1)
      | false ↦ (h, hs)
    ]

pub order_unmapped : (canonical : Canonical) (ns : List ℕ) → AreUnmapped canonical ns → AreUnmapped canonical (marks_in_order canonical.class ns)
unfolding marks_in_order
order_unmapped canonical [] hs = tt
order_unmapped canonical (c ∷ cs) hs = put_unmapped canonical c _ hs.0 (order_unmapped canonical cs hs.1)

-- a decomposed list has no character that is mapped
pub decomposed_unmapped : (canonical : Canonical) (xs : List ℕ) → IsDecomposing canonical → All IsScalar xs → AreUnmapped canonical (decomposed canonical xs)
unfolding decomposed
decomposed_unmapped canonical xs d s =
    order_unmapped canonical (flat_map canonical.full xs) (unmapped_left canonical xs (flat_map canonical.full xs) (left_full canonical xs d s))

-- ---- two data that say the same

-- one full list a character gives one of a text; one class a character gives one order of marks
pub full_same : (a b : Canonical) (cs : List ℕ) → AreSameCanonical a b → AreScalar cs → flat_map a.full cs ≡ flat_map b.full cs
full_same a b [] same h = refl
full_same a b (c ∷ cs) same h = cc (same.full c h.0, full_same a b cs same h.1)

pub put_same : (f g : ℕ → ℕ) (c : ℕ) (ds : List ℕ) → ((x : ℕ) → IsScalar x → f x ≡ g x) → IsScalar c → AreScalar ds → put_in_order f c ds ≡ put_in_order g c ds
unfolding put_in_order
put_same f g c [] same s h = refl
put_same f g c (d ∷ ds) same s h = cc (same c s, same d h.0, put_same f g c ds same s h.1)

pub order_same : (f g : ℕ → ℕ) (cs : List ℕ) → ((x : ℕ) → IsScalar x → f x ≡ g x) → AreScalar cs → marks_in_order f cs ≡ marks_in_order g cs
unfolding marks_in_order
order_same f g [] same h = refl
order_same f g (c ∷ cs) same h =
    ap (put_in_order f c) (order_same f g cs same h.1) ∙ put_same f g c (marks_in_order g cs) same h.0 (order_scalars g cs h.1)

-- and so one decomposed list
pub decomposed_same : (a b : Canonical) (text : List ℕ) → AreSameCanonical a b → IsDecomposing b → All IsScalar text
    → decomposed a text ≡ decomposed b text
unfolding decomposed
decomposed_same a b text same d h =
    let scalars = recursion_from_All IsScalar text h
    in ap (marks_in_order a.class) (full_same a b text same scalars)
    ∙ order_same a.class b.class (flat_map b.full text) same.class (full_scalars b text d scalars)
