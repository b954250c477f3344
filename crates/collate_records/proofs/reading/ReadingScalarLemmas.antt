-- The code points that lines map to are scalar values.
use Rattle.std.proofs.Common.{◌≡◌, ℕ, ◌≤◌, Bool, true, false, List, [], ◌∷◌, length, Option, Some, None, All, refl, arith, ◌==◌, ◌⊎◌, inl, inr}
use Rattle.std.proofs.lemmas.Bool.Decides.{nat_tests}
use Rattle.std.proofs.lemmas.List.Elements.{All-cons, All-nil}
use Rattle.std.specs.List.{slice_split}
use Rattle.std.proofs.lemmas.Option.{same_Some}
use Rattle.std.specs.Char.{IsScalar}
use Rattle.std.specs.Prelude.{if◌then◌else◌, codes}
use Rattle.collate_lines.specs.Record.{Record, nothing, class, mapping, compatibility, weights, range, digit, setting, Layer, root, tailoring}
use Rattle.collate_rules.specs.Accepted.{MapsToScalars}
use Rattle.collate_lines.specs.Grammar.{◌>>=◌, checked, class_by, class_number, code_point, compatibility_by, digit_by, digit_to, element, ending_by, hex_number, hex_of, is_scalar, is_short, key_by, listed, mapping_by, parted, range_by, record_by, record_of, set_by, setting_by, some_listed, step_number, weights_by}

scalar_test : (c : ℕ) → is_scalar c ≡ true → IsScalar c
scalar_test c h = grind (arith, nat_tests)

checked_some : (b : Bool) (d c : ℕ) → checked b d ≡ Some c → (b ≡ true) × (d ≡ c)
checked_some true d c e = (refl, same_Some d c e)
checked_some false d c e = absurd (cc)

bound_scalar : (o : Option ℕ) (c : ℕ) → (o >>= λ d. checked (is_scalar d) d) ≡ Some c → IsScalar c
bound_scalar None c e = absurd (cc)
bound_scalar (Some d) c e = let h = checked_some (is_scalar d) d c e in rw (← h.1) (scalar_test d h.0)

either_none : {A : Type 0} (b : Bool) (o : Option A) (x : A) → (if b then o else None) ≡ Some x → o ≡ Some x
either_none true o x e = e
either_none false o x e = absurd (cc)

-- a code point that is read is a scalar value
pub code_point_scalar : (field : List ℕ) (c : ℕ) → code_point field ≡ Some c → IsScalar c
code_point_scalar field c e = bound_scalar (hex_number field) c (either_none (is_short 4 6 field) _ c e)

bind_some : {A B : Type 0} (o : Option A) (f : A → Option B) (y : B) → (o >>= f) ≡ Some y → (x : A) × (o ≡ Some x) × (f x ≡ Some y)
bind_some None f y e = absurd (cc)
bind_some (Some x) f y e = (x, refl, e)

either : {A : Type 0} (t : Bool) (p q : Option A) (x : A) → (if t then p else q) ≡ Some x → (p ≡ Some x) ⊎ (q ≡ Some x)
either true p q x e = inl e
either false p q x e = inr e

-- at most one character, a scalar value
record IsEnding (ending : List ℕ × Bool) : Type 0 where
  scalars : All IsScalar (ending.0)
  short : length (ending.0) ≤ 1

none_ends : (b : Bool) (ending : List ℕ × Bool) → Some ([], b) ≡ Some ending → IsEnding ending
none_ends b ending e = rw (← same_Some _ _ e) record { scalars = All-nil IsScalar; short = omega arith }

one_ends : (field : List ℕ) (b : Bool) (ending : List ℕ × Bool) → (code_point field >>= λ c. Some (c ∷ [], b)) ≡ Some ending → IsEnding ending
one_ends field b ending e =
    let h = bind_some (code_point field) (λ c. Some (c ∷ [], b)) ending e
    in rw (← same_Some _ _ h.2) record { scalars = All-cons IsScalar h.0 [] (code_point_scalar field h.0 h.1) (All-nil IsScalar); short = omega arith }

-- what may stand after the first character of a mapping
ending_scalars : (fields : List (List ℕ)) (ending : List ℕ × Bool) → ending_by fields ≡ Some ending → IsEnding ending
ending_scalars [] ending e = none_ends false ending e
ending_scalars (f ∷ []) ending e = elim (either _ _ _ _ e) [ inl p ↦ none_ends true ending p | inr q ↦ one_ends f false ending q ]
ending_scalars (f ∷ x ∷ []) ending e = one_ends f true ending (either_none _ _ _ e)
ending_scalars (f ∷ x ∷ y ∷ fs) ending e = absurd (cc)

-- a line maps a scalar value to scalar values, canonically to one or two, by compatibility to one or more
abbrev HasScalars : Record → Type 0
HasScalars (mapping c ds is_excluded) = IsScalar c × All IsScalar ds × (length ds ≤ 2) × (1 ≤ length ds)
HasScalars (compatibility c ds) = IsScalar c × All IsScalar ds × (1 ≤ length ds)
HasScalars _ = Unit {0}

-- a mapping that is read is so
mapping_scalars : (fields : List (List ℕ)) (s : Record) → mapping_by fields ≡ Some s → HasScalars s
mapping_scalars [] s e = absurd (cc)
mapping_scalars (c ∷ []) s e = absurd (cc)
mapping_scalars (c ∷ d ∷ fields) s e =
    let a = bind_some (code_point c) _ s e
    in let b = bind_some (code_point d) _ s a.2
    in let g = bind_some (ending_by fields) _ s b.2
    in let h = ending_scalars fields g.0 g.1
    in rw (← same_Some _ _ g.2)
    (code_point_scalar c a.0 a.1, All-cons IsScalar b.0 (g.0.0) (code_point_scalar d b.0 b.1) h.scalars, omega (arith, h.short), omega arith)

class_scalars : (fields : List (List ℕ)) (s : Record) → class_by fields ≡ Some s → HasScalars s
class_scalars [] s e = absurd (cc)
class_scalars (c ∷ []) s e = absurd (cc)
class_scalars (c ∷ n ∷ []) s e =
    let a = bind_some (code_point c) _ s e
    in let b = bind_some (class_number n) _ s a.2
    in rw (← same_Some _ _ b.2) tt
class_scalars (c ∷ n ∷ x ∷ fs) s e = absurd (cc)

listed_scalars : (fields : List (List ℕ)) (ds : List ℕ) → listed code_point fields ≡ Some ds → All IsScalar ds
listed_scalars [] ds e = rw (← same_Some _ _ e) (All-nil IsScalar)
listed_scalars (f ∷ fields) ds e =
    let a = bind_some (code_point f) _ ds e
    in let b = bind_some (listed code_point fields) _ ds a.2
    in rw (← same_Some _ _ b.2) (All-cons IsScalar a.0 b.0 (code_point_scalar f a.0 a.1) (listed_scalars fields b.0 b.1))

some_listed_scalars : (fields : List (List ℕ)) (ds : List ℕ) → some_listed code_point fields ≡ Some ds → All IsScalar ds × (1 ≤ length ds)
some_listed_scalars [] ds e = absurd (cc)
some_listed_scalars (f ∷ fields) ds e =
    let a = bind_some (code_point f) _ ds e
    in let b = bind_some (listed code_point fields) _ ds a.2
    in (listed_scalars (f ∷ fields) ds e, rw (← same_Some _ _ b.2) (omega arith))

compatibility_scalars : (fields : List (List ℕ)) (s : Record) → compatibility_by fields ≡ Some s → HasScalars s
compatibility_scalars [] s e = absurd (cc)
compatibility_scalars (c ∷ fields) s e =
    let a = bind_some (code_point c) _ s e
    in let b = bind_some (some_listed code_point fields) _ s a.2
    in let listed_here = some_listed_scalars fields b.0 b.1
    in rw (← same_Some _ _ b.2) (code_point_scalar c a.0 a.1, listed_here.0, listed_here.1)

weights_scalars : (layer : Layer) (fields : List (List ℕ)) (s : Record) → weights_by layer fields ≡ Some s → HasScalars s
weights_scalars layer fields s e =
    let a = bind_some (parted (codes ";") fields) _ s e
    in let b = bind_some (key_by a.0.0) _ s a.2
    in let d = bind_some (listed element a.0.1) _ s b.2
    in rw (← same_Some _ _ d.2) tt

range_scalars : (fields : List (List ℕ)) (s : Record) → range_by fields ≡ Some s → HasScalars s
range_scalars [] s e = absurd (cc)
range_scalars (c ∷ []) s e = absurd (cc)
range_scalars (c ∷ d ∷ []) s e = absurd (cc)
range_scalars (c ∷ d ∷ p ∷ []) s e = absurd (cc)
range_scalars (c ∷ d ∷ p ∷ n ∷ []) s e =
    let first = bind_some (code_point c) _ s e
    in let second = bind_some (code_point d) _ s first.2
    in let third = bind_some (hex_of 8 p) _ s second.2
    in let fourth = bind_some (step_number n) _ s third.2
    in rw (← same_Some _ _ fourth.2) tt
range_scalars (c ∷ d ∷ p ∷ n ∷ x ∷ fs) s e = absurd (cc)

digit_scalars : (fields : List (List ℕ)) (s : Record) → digit_by fields ≡ Some s → HasScalars s
digit_scalars [] s e = absurd (cc)
digit_scalars (c ∷ []) s e = absurd (cc)
digit_scalars (c ∷ n ∷ []) s e =
    let a = bind_some (code_point c) _ s e
    in let b = bind_some (digit_to 9 n) _ s a.2
    in rw (← same_Some _ _ b.2) tt
digit_scalars (c ∷ n ∷ x ∷ fs) s e = absurd (cc)

set_scalars : (fields : List (List ℕ)) (s : Record) → set_by fields ≡ Some s → HasScalars s
set_scalars [] s e = absurd (cc)
set_scalars (name ∷ values) s e = let a = bind_some (setting_by name values) _ s e in rw (← same_Some _ _ a.2) tt

no_none : (s : Record) → None ≡ Some s → ⊥
no_none s e = cc

-- one of two forms, by a word
one_of : (b : Bool) (p q : Option Record) (s : Record) → (p ≡ Some s → HasScalars s) → (q ≡ Some s → HasScalars s)
    → (if b then p else q) ≡ Some s → HasScalars s
one_of true p q s h k e = h e
one_of false p q s h k e = k e

fields_scalars : (fields : List (List ℕ)) (s : Record) → record_by fields ≡ Some s → HasScalars s
fields_scalars [] s e = absurd (no_none s e)
fields_scalars (word ∷ fields) s e =
    one_of _ _ _ s (class_scalars fields s)
    (one_of _ _ _ s (mapping_scalars fields s)
    (one_of _ _ _ s (compatibility_scalars fields s)
    (one_of _ _ _ s (weights_scalars root fields s)
    (one_of _ _ _ s (weights_scalars tailoring fields s)
    (one_of _ _ _ s (range_scalars fields s)
    (one_of _ _ _ s (digit_scalars fields s)
    (one_of _ _ _ s (set_scalars fields s) (λ none. absurd (no_none s none))))))))) e

-- a line in the grammar is so
record_scalars : (line : List ℕ) (s : Record) → record_of line ≡ Some s → HasScalars s
record_scalars line s e =
    one_of _ _ _ s (λ none. absurd (no_none s none))
    (one_of _ _ _ s (λ is. rw (← same_Some nothing s is) tt) (fields_scalars (slice_split (λ b. b == 32) line) s)) e

to_scalars : (s : Record) → HasScalars s → MapsToScalars s
to_scalars nothing h = tt
to_scalars (class c k) h = tt
to_scalars (mapping c ds x) h = (h.1, h.2)
to_scalars (compatibility c ds) h = tt
to_scalars (weights l p t es) h = tt
to_scalars (range r) h = tt
to_scalars (digit c v) h = tt
to_scalars (setting v) h = tt

-- a line that is read maps to scalar values
pub line_scalars : (line : List ℕ) (s : Record) → record_of line ≡ Some s → MapsToScalars s
line_scalars line s e = to_scalars s (record_scalars line s e)

-- and maps one
pub mapped_scalar : (line : List ℕ) (c : ℕ) (ds : List ℕ) (x : Bool) → record_of line ≡ Some (mapping c ds x) → IsScalar c
mapped_scalar line c ds x e = (record_scalars line (mapping c ds x) e).0

-- to one character or two
pub mapped_some : (line : List ℕ) (c : ℕ) (ds : List ℕ) (x : Bool) → record_of line ≡ Some (mapping c ds x) → (length ds ≤ 2) × (1 ≤ length ds)
mapped_some line c ds x e = let h = record_scalars line (mapping c ds x) e in (h.2, h.3)

-- a compatibility mapping that is read is to scalar values, one or more
pub compatibility_some : (line : List ℕ) (c : ℕ) (ds : List ℕ) → record_of line ≡ Some (compatibility c ds) → All IsScalar ds × (1 ≤ length ds)
compatibility_some line c ds e = let h = record_scalars line (compatibility c ds) e in (h.1, h.2)

-- of a scalar value
pub compatibility_scalar : (line : List ℕ) (c : ℕ) (ds : List ℕ) → record_of line ≡ Some (compatibility c ds) → IsScalar c
compatibility_scalar line c ds e = (record_scalars line (compatibility c ds) e).0
