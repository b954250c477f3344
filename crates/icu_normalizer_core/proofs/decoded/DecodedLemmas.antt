-- What is read from bytes and units: how many characters at most, each a scalar value.
use Rattle.std.proofs.Common.{◌≡◌, ℕ, zero, suc, ◌<◌, ◌≤◌, ◌^◌, true, List, [], ◌∷◌, Option, None, Some, length, get_or, slice_index, refl, sym, ap, subst, arith, ⊎_elim}
use Rattle.std.proofs.lemmas.Bool.{cases_Bool}
use Rattle.std.proofs.lemmas.Bool.Decides.{nat_tests}
use Rattle.std.proofs.lemmas.List.Elements.{All-nil, All-cons, All-tail, All-map, All-from_get_or}
use Rattle.std.specs.Iterator.{AlwaysYields, YieldsFirst}
use Rattle.std.specs.List.{All}
use Rattle.std.specs.Char.{IsScalar}
use Rattle.std.specs.Char.Utf16.{surrogate_pair_char}
use lib.Utf8.{low_scalar}
use Rattle.bstr.specs.Utf8.{Decoded, decoded, or_replacement, pieces_from}
use Rattle.bstr.proofs.lemmas.LengthLemmas.{length-lossy_chars}
use Rattle.bstr.proofs.lemmas.SoundLemmas.{SpellsChar-decoded}
use Rattle.icu_normalizer_core.specs.Decoding.{utf8_chars, utf16_chars, latin1_chars}
use Rattle.icu_normalizer_core.proofs.decoded.Utf16Lemmas.{is_pair, lone_char, utf16_chars-nil, one_unit, pair_step, lone_step}

-- An iterator whose view is the list that is left gives just that list: for a caller whose source is any iterator of characters
pub list_gives : (cs : List ℕ) → AlwaysYields (YieldsFirst (λ (rest : List ℕ). rest)) (λ c. c) cs cs
list_gives [] = λ x rest e. let none : [] ≡ x ∷ rest = e in cc
list_gives (c ∷ cs) = (
  λ rest e. let none : c ∷ cs ≡ [] = e.0 in cc,
  λ x rest e.
      let both : c ∷ cs ≡ x ∷ rest = e in
      let first : x ≡ c = cc in
      let later : cs ≡ rest = cc in
      (first, subst (λ t. AlwaysYields (YieldsFirst (λ (r : List ℕ). r)) (λ d. d) t cs) later (list_gives cs)),
)

-- ---- UTF-8

read_scalar : (bytes : List ℕ) (found : Option ℕ) → (decoded bytes).char ≡ found → IsScalar (or_replacement found)
read_scalar bytes None is = refl
read_scalar bytes (Some c) is = (SpellsChar-decoded bytes c is).scalar

abbrev IsScalarPiece : Decoded → Type 0
IsScalarPiece piece = IsScalar (or_replacement piece.char)

scalar_pieces : (n : ℕ) (bytes : List ℕ) → All IsScalarPiece (pieces_from n bytes)
unfolding pieces_from
scalar_pieces zero bytes = All-nil IsScalarPiece
scalar_pieces (suc n) [] = All-nil IsScalarPiece
scalar_pieces (suc n) (b ∷ rest) = All-cons IsScalarPiece (decoded (b ∷ rest)) _ (read_scalar (b ∷ rest) _ refl) (scalar_pieces n _)

pub utf8_length : (bytes : List ℕ) → length (utf8_chars bytes) ≤ length bytes
utf8_length bytes = length-lossy_chars bytes

pub utf8_scalars : (bytes : List ℕ) → All IsScalar (utf8_chars bytes)
utf8_scalars bytes = All-map IsScalar _ _ (scalar_pieces (length bytes) bytes)

-- ---- UTF-16

pub utf16_length : (units : List ℕ) → length (utf16_chars units) ≤ length units
utf16_length [] = omega (arith, ap length utf16_chars-nil)
utf16_length (u ∷ []) = omega (arith, ap length (one_unit u))
utf16_length (u ∷ v ∷ us) = ⊎_elim
    (λ joined. omega (arith, ap length (pair_step u v us joined), utf16_length us))
    (λ alone. omega (arith, ap length (lone_step u v us alone), utf16_length (v ∷ us)))
    (cases_Bool (is_pair u v))

pair_scalar : (u v : ℕ) → is_pair u v ≡ true → IsScalar (surrogate_pair_char u v)
pair_scalar u v joined = grind (arith, nat_tests)

lone_scalar : (u : ℕ) → u < 2 ^ 16 → IsScalar (lone_char u)
lone_scalar u small = grind (arith, nat_tests)

pub utf16_scalars : (units : List ℕ) → All (λ u. u < 2 ^ 16) units → All IsScalar (utf16_chars units)
utf16_scalars [] small = subst (All IsScalar) (sym utf16_chars-nil) (All-nil IsScalar)
utf16_scalars (u ∷ []) small = subst (All IsScalar) (sym (one_unit u)) (All-cons IsScalar (lone_char u) [] (lone_scalar u (small 0 0 (omega arith))) (All-nil IsScalar))
utf16_scalars (u ∷ v ∷ us) small =
    let later = All-tail (λ (x : ℕ). x < 2 ^ 16) u (v ∷ us) small in
    ⊎_elim
    (λ joined. subst (All IsScalar) (sym (pair_step u v us joined))
    (All-cons IsScalar _ _ (pair_scalar u v joined) (utf16_scalars us (All-tail (λ (x : ℕ). x < 2 ^ 16) v us later))))
    (λ alone. subst (All IsScalar) (sym (lone_step u v us alone)) (All-cons IsScalar _ _ (lone_scalar u (small 0 0 (omega arith))) (utf16_scalars (v ∷ us) later)))
    (cases_Bool (is_pair u v))

-- the same, where the bound is of the unit at each index, 0 past the end
pub unit_scalars : (units : List ℕ) → ((i : ℕ) → slice_index units i < 2 ^ 16) → All IsScalar (utf16_chars units)
unit_scalars units small = utf16_scalars units (All-from_get_or (λ (u : ℕ). u < 2 ^ 16) units 0 (λ i within. small i))

-- ---- Latin-1

pub latin1_scalars : (bytes : List ℕ) → All (λ b. b < 2 ^ 8) bytes → All IsScalar (latin1_chars bytes)
latin1_scalars bytes small k d within =
    let byte : get_or bytes k d < 2 ^ 8 = small k d within in
    low_scalar (get_or bytes k d) (omega arith)
