-- Numbers among units are read as they are written.
use Rattle.std.proofs.Common.{◌≡◌, ℕ, zero, suc, ◌+◌, ◌-◌, ◌*◌, ◌/◌, ◌%◌, ◌^◌, ◌<◌, ◌≤◌, ltb, if◌then◌else◌, List, [], ◌∷◌, ◌++◌, drop, slice_get, Option, Some, None, ap, ◌∙◌, sym, arith, ⊎_elim}
use Rattle.std.proofs.lemmas.Bool.{cases_lt}
use Rattle.std.proofs.lemmas.List.{drop-drop}
use Rattle.icu_char16trie.specs.UnitNumbers.{after, with_unit, two_units, final_number, intermediate_number, delta}
use Rattle.icu_char16trie.specs.UnitNumberForms.{two_unit_form, three_unit_form, number_form, intermediate_form, delta_form}
use Rattle.icu_char16trie.specs.declared.cells.Number.{Number}
use Rattle.icu_char16trie.proofs.Cursors.SearchLemmas.{if_ltb, if_not_ltb}

head_of : List ℕ → Option ℕ
head_of [] = None
head_of (unit ∷ units) = Some unit

pub unit_at : (units : List ℕ) (index unit : ℕ) (rest : List ℕ) → drop index units ≡ unit ∷ rest → slice_get units index ≡ Some unit
unfolding head_of
unit_at [] zero unit rest e = ap head_of e
unit_at [] (suc index) unit rest e = ap head_of e
unit_at (x ∷ xs) zero unit rest e = ap head_of e
unit_at (x ∷ xs) (suc index) unit rest e = unit_at xs index unit rest e

pub behind_unit : (units : List ℕ) (index unit : ℕ) (rest : List ℕ) → drop index units ≡ unit ∷ rest → drop (index + 1) units ≡ rest
behind_unit units index unit rest e = sym (drop-drop 1 index units) ∙ ap (λ xs. drop 1 xs) e

abbrev pub number_to : ℕ → ℕ → Option Number
number_to value end = Some (record { value = value; end = end })

with_unit_at : (units : List ℕ) (high index low : ℕ) (rest : List ℕ) → drop index units ≡ low ∷ rest → with_unit units high index ≡ number_to (high * 2 ^ 16 + low) (index + 1)
with_unit_at units high index low rest e = ap (λ found. after found (λ low. number_to (high * 2 ^ 16 + low) (index + 1))) (unit_at units index low rest e)

two_units_at : (units : List ℕ) (index high low : ℕ) (rest : List ℕ) → drop index units ≡ high ∷ low ∷ rest → two_units units index ≡ number_to (high * 2 ^ 16 + low) (index + 1 + 1)
two_units_at units index high low rest e =
    ap (λ found. after found (λ high. with_unit units high (index + 1))) (unit_at units index high (low ∷ rest) e)
    ∙ with_unit_at units high (index + 1) low rest (behind_unit units index high (low ∷ rest) e)

-- a jump or a value that was read, and what stands after it
pub record ReadsNumber (units : List ℕ) (index highest number : ℕ) (rest : List ℕ) : Type 0 where
  pub lead : ℕ
  pub end : ℕ
  pub at : slice_get units index ≡ Some (highest + lead)
  pub low : lead < 0x8000
  pub reads : final_number units lead (index + 1) ≡ number_to number end
  pub left : drop end units ≡ rest

module _ (units : List ℕ) (index highest number : ℕ) (rest : List ℕ) where
  number_one : number < 0x4000 → drop index units ≡ (highest + number) ∷ rest → ReadsNumber units index highest number rest
  number_one small e = record {
    lead = number;
    end = index + 1;
    at = unit_at units index (highest + number) rest e;
    low = omega (arith, small);
    reads = if_ltb number 0x4000 (number_to number (index + 1)) (if ltb number 0x7fff then with_unit units (number - 0x4000) (index + 1) else two_units units (index + 1)) small;
    left = behind_unit units index (highest + number) rest e;
  }

  number_two : 0x4000 ≤ number → number < 0x3fff_0000 → drop index units ≡ (highest + 0x4000 + number / 2 ^ 16) ∷ number % 2 ^ 16 ∷ rest → ReadsNumber units index highest number rest
  number_two large small e =
      let lead : ℕ = 0x4000 + number / 2 ^ 16 in
      let below : lead < 0x7fff = omega (arith, small) in
      let at_state = behind_unit units index (highest + 0x4000 + number / 2 ^ 16) (number % 2 ^ 16 ∷ rest) e in
      record {
        lead = lead;
        end = index + 1 + 1;
        at = unit_at units index (highest + 0x4000 + number / 2 ^ 16) (number % 2 ^ 16 ∷ rest) e ∙ ap Some (omega arith);
        low = omega (arith, below);
        reads = if_not_ltb lead 0x4000 (number_to lead (index + 1)) (if ltb lead 0x7fff then with_unit units (lead - 0x4000) (index + 1) else two_units units (index + 1)) (omega arith)
            ∙ if_ltb lead 0x7fff (with_unit units (lead - 0x4000) (index + 1)) (two_units units (index + 1)) below
            ∙ with_unit_at units (lead - 0x4000) (index + 1) (number % 2 ^ 16) rest at_state
            ∙ ap (λ value. number_to value (index + 1 + 1)) (omega arith);
        left = behind_unit units (index + 1) (number % 2 ^ 16) rest at_state;
      }

  number_three : drop index units ≡ (highest + 0x7fff) ∷ (0 + number / 2 ^ 16) ∷ number % 2 ^ 16 ∷ rest → ReadsNumber units index highest number rest
  number_three e =
      let at_state = behind_unit units index (highest + 0x7fff) ((0 + number / 2 ^ 16) ∷ number % 2 ^ 16 ∷ rest) e in
      let second = behind_unit units (index + 1) (0 + number / 2 ^ 16) (number % 2 ^ 16 ∷ rest) at_state in
      record {
        lead = 0x7fff;
        end = index + 1 + 1 + 1;
        at = unit_at units index (highest + 0x7fff) ((0 + number / 2 ^ 16) ∷ number % 2 ^ 16 ∷ rest) e;
        low = omega arith;
        reads = two_units_at units (index + 1) (0 + number / 2 ^ 16) (number % 2 ^ 16) rest at_state
            ∙ ap (λ value. number_to value (index + 1 + 1 + 1)) (omega arith);
        left = behind_unit units (index + 1 + 1) (number % 2 ^ 16) rest second;
      }

  pub reads_number : drop index units ≡ number_form highest number ++ rest → ReadsNumber units index highest number rest
  reads_number e =
      let longer : List ℕ = if ltb number 0x3fff_0000 then two_unit_form (highest + 0x4000) number else three_unit_form (highest + 0x7fff) number in
      ⊎_elim
      (λ (small : number < 0x4000). number_one small (e ∙ ap (λ form. form ++ rest) (if_ltb number 0x4000 ((highest + number) ∷ []) longer small)))
      (λ (large : 0x4000 ≤ number).
      let f = e ∙ ap (λ form. form ++ rest) (if_not_ltb number 0x4000 ((highest + number) ∷ []) longer large) in
      ⊎_elim
      (λ (small : number < 0x3fff_0000). number_two large small (f ∙ ap (λ form. form ++ rest) (if_ltb number 0x3fff_0000 (two_unit_form (highest + 0x4000) number) (three_unit_form (highest + 0x7fff) number) small)))
      (λ (larger : 0x3fff_0000 ≤ number). number_three (f ∙ ap (λ form. form ++ rest) (if_not_ltb number 0x3fff_0000 (two_unit_form (highest + 0x4000) number) (three_unit_form (highest + 0x7fff) number) larger)))
      (cases_lt number 0x3fff_0000))
      (cases_lt number 0x4000)

-- a value before a node of the type, that was read
pub record ReadsIntermediate (units : List ℕ) (index kind number : ℕ) (rest : List ℕ) : Type 0 where
  pub lead : ℕ
  pub end : ℕ
  pub at : slice_get units index ≡ Some lead
  pub high : 0x40 ≤ lead
  pub low : lead < 0x8000
  pub of : lead % 0x40 ≡ kind
  pub reads : intermediate_number units lead (index + 1) ≡ number_to number end
  pub left : drop end units ≡ rest

module _ (units : List ℕ) (index kind number : ℕ) (rest : List ℕ) (type : kind < 0x40) where
  intermediate_one : number < 0x100 → drop index units ≡ ((number + 1) * 0x40 + kind) ∷ rest → ReadsIntermediate units index kind number rest
  intermediate_one small e =
      let lead : ℕ = (number + 1) * 0x40 + kind in
      let below : lead < 0x4040 = omega (arith, small, type) in
      record {
        lead = lead;
        end = index + 1;
        at = unit_at units index lead rest e;
        high = omega arith;
        low = omega (arith, below);
        of = omega (arith, type);
        reads = if_ltb lead 0x4040 (number_to (lead / 2 ^ 6 - 1) (index + 1)) (if ltb lead 0x7fc0 then with_unit units (lead / 2 ^ 6 - 0x101) (index + 1) else two_units units (index + 1)) below
            ∙ ap (λ value. number_to value (index + 1)) (omega (arith, type));
        left = behind_unit units index lead rest e;
      }

  intermediate_two : number < 0xfe_0000 → drop index units ≡ ((number / 2 ^ 16 + 0x101) * 0x40 + kind) ∷ number % 2 ^ 16 ∷ rest → ReadsIntermediate units index kind number rest
  intermediate_two small e =
      let lead : ℕ = (number / 2 ^ 16 + 0x101) * 0x40 + kind in
      let below : lead < 0x7fc0 = omega (arith, small, type) in
      let at_state = behind_unit units index lead (number % 2 ^ 16 ∷ rest) e in
      record {
        lead = lead;
        end = index + 1 + 1;
        at = unit_at units index lead (number % 2 ^ 16 ∷ rest) e;
        high = omega arith;
        low = omega (arith, below);
        of = omega (arith, type);
        reads = if_not_ltb lead 0x4040 (number_to (lead / 2 ^ 6 - 1) (index + 1)) (if ltb lead 0x7fc0 then with_unit units (lead / 2 ^ 6 - 0x101) (index + 1) else two_units units (index + 1)) (omega arith)
            ∙ if_ltb lead 0x7fc0 (with_unit units (lead / 2 ^ 6 - 0x101) (index + 1)) (two_units units (index + 1)) below
            ∙ with_unit_at units (lead / 2 ^ 6 - 0x101) (index + 1) (number % 2 ^ 16) rest at_state
            ∙ ap (λ value. number_to value (index + 1 + 1)) (omega (arith, type));
        left = behind_unit units (index + 1) (number % 2 ^ 16) rest at_state;
      }

  intermediate_three : drop index units ≡ (0x7fc0 + kind) ∷ (0 + number / 2 ^ 16) ∷ number % 2 ^ 16 ∷ rest → ReadsIntermediate units index kind number rest
  intermediate_three e =
      let lead : ℕ = 0x7fc0 + kind in
      let at_state = behind_unit units index lead ((0 + number / 2 ^ 16) ∷ number % 2 ^ 16 ∷ rest) e in
      let second = behind_unit units (index + 1) (0 + number / 2 ^ 16) (number % 2 ^ 16 ∷ rest) at_state in
      record {
        lead = lead;
        end = index + 1 + 1 + 1;
        at = unit_at units index lead ((0 + number / 2 ^ 16) ∷ number % 2 ^ 16 ∷ rest) e;
        high = omega arith;
        low = omega (arith, type);
        of = omega (arith, type);
        reads = if_not_ltb lead 0x4040 (number_to (lead / 2 ^ 6 - 1) (index + 1)) (if ltb lead 0x7fc0 then with_unit units (lead / 2 ^ 6 - 0x101) (index + 1) else two_units units (index + 1)) (omega arith)
            ∙ if_not_ltb lead 0x7fc0 (with_unit units (lead / 2 ^ 6 - 0x101) (index + 1)) (two_units units (index + 1)) (omega arith)
            ∙ two_units_at units (index + 1) (0 + number / 2 ^ 16) (number % 2 ^ 16) rest at_state
            ∙ ap (λ value. number_to value (index + 1 + 1 + 1)) (omega arith);
        left = behind_unit units (index + 1 + 1) (number % 2 ^ 16) rest second;
      }

  pub reads_intermediate : drop index units ≡ intermediate_form kind number ++ rest → ReadsIntermediate units index kind number rest
  reads_intermediate e =
      let one : List ℕ = ((number + 1) * 0x40 + kind) ∷ [] in
      let two : List ℕ = ((number / 2 ^ 16 + 0x101) * 0x40 + kind) ∷ number % 2 ^ 16 ∷ [] in
      let three : List ℕ = three_unit_form (0x7fc0 + kind) number in
      ⊎_elim
      (λ (small : number < 0x100). intermediate_one small (e ∙ ap (λ form. form ++ rest) (if_ltb number 0x100 one (if ltb number 0xfe_0000 then two else three) small)))
      (λ (large : 0x100 ≤ number).
      let f = e ∙ ap (λ form. form ++ rest) (if_not_ltb number 0x100 one (if ltb number 0xfe_0000 then two else three) large) in
      ⊎_elim
      (λ (small : number < 0xfe_0000). intermediate_two small (f ∙ ap (λ form. form ++ rest) (if_ltb number 0xfe_0000 two three small)))
      (λ (larger : 0xfe_0000 ≤ number). intermediate_three (f ∙ ap (λ form. form ++ rest) (if_not_ltb number 0xfe_0000 two three larger)))
      (cases_lt number 0xfe_0000))
      (cases_lt number 0x100)

-- how far a branch jumps, that was read
pub record ReadsDelta (units : List ℕ) (index number : ℕ) (rest : List ℕ) : Type 0 where
  pub end : ℕ
  pub reads : delta units index ≡ number_to number end
  pub left : drop end units ≡ rest

abbrev delta_lead : List ℕ → ℕ → ℕ → Option Number
delta_lead units index lead =
    if ltb lead 0xfc00 then number_to lead (index + 1)
    else (if ltb lead 0xffff then with_unit units (lead - 0xfc00) (index + 1) else two_units units (index + 1))

module _ (units : List ℕ) (index number : ℕ) (rest : List ℕ) where
  delta_one : number < 0xfc00 → drop index units ≡ number ∷ rest → ReadsDelta units index number rest
  delta_one small e = record {
    end = index + 1;
    reads = ap (λ found. after found (delta_lead units index)) (unit_at units index number rest e)
        ∙ if_ltb number 0xfc00 (number_to number (index + 1)) (if ltb number 0xffff then with_unit units (number - 0xfc00) (index + 1) else two_units units (index + 1)) small;
    left = behind_unit units index number rest e;
  }

  delta_two : number < 0x3ff_0000 → drop index units ≡ (0xfc00 + number / 2 ^ 16) ∷ number % 2 ^ 16 ∷ rest → ReadsDelta units index number rest
  delta_two small e =
      let lead : ℕ = 0xfc00 + number / 2 ^ 16 in
      let below : lead < 0xffff = omega (arith, small) in
      let at_state = behind_unit units index lead (number % 2 ^ 16 ∷ rest) e in
      record {
        end = index + 1 + 1;
        reads = ap (λ found. after found (delta_lead units index)) (unit_at units index lead (number % 2 ^ 16 ∷ rest) e)
            ∙ if_not_ltb lead 0xfc00 (number_to lead (index + 1)) (if ltb lead 0xffff then with_unit units (lead - 0xfc00) (index + 1) else two_units units (index + 1)) (omega arith)
            ∙ if_ltb lead 0xffff (with_unit units (lead - 0xfc00) (index + 1)) (two_units units (index + 1)) below
            ∙ with_unit_at units (lead - 0xfc00) (index + 1) (number % 2 ^ 16) rest at_state
            ∙ ap (λ value. number_to value (index + 1 + 1)) (omega arith);
        left = behind_unit units (index + 1) (number % 2 ^ 16) rest at_state;
      }

  delta_three : drop index units ≡ 0xffff ∷ (0 + number / 2 ^ 16) ∷ number % 2 ^ 16 ∷ rest → ReadsDelta units index number rest
  delta_three e =
      let at_state = behind_unit units index 0xffff ((0 + number / 2 ^ 16) ∷ number % 2 ^ 16 ∷ rest) e in
      let second = behind_unit units (index + 1) (0 + number / 2 ^ 16) (number % 2 ^ 16 ∷ rest) at_state in
      record {
        end = index + 1 + 1 + 1;
        reads = ap (λ found. after found (delta_lead units index)) (unit_at units index 0xffff ((0 + number / 2 ^ 16) ∷ number % 2 ^ 16 ∷ rest) e)
            ∙ two_units_at units (index + 1) (0 + number / 2 ^ 16) (number % 2 ^ 16) rest at_state
            ∙ ap (λ value. number_to value (index + 1 + 1 + 1)) (omega arith);
        left = behind_unit units (index + 1 + 1) (number % 2 ^ 16) rest second;
      }

  pub reads_delta : drop index units ≡ delta_form number ++ rest → ReadsDelta units index number rest
  reads_delta e =
      let longer : List ℕ = if ltb number 0x3ff_0000 then two_unit_form 0xfc00 number else three_unit_form 0xffff number in
      ⊎_elim
      (λ (small : number < 0xfc00). delta_one small (e ∙ ap (λ form. form ++ rest) (if_ltb number 0xfc00 (number ∷ []) longer small)))
      (λ (large : 0xfc00 ≤ number).
      let f = e ∙ ap (λ form. form ++ rest) (if_not_ltb number 0xfc00 (number ∷ []) longer large) in
      ⊎_elim
      (λ (small : number < 0x3ff_0000). delta_two small (f ∙ ap (λ form. form ++ rest) (if_ltb number 0x3ff_0000 (two_unit_form 0xfc00 number) (three_unit_form 0xffff number) small)))
      (λ (larger : 0x3ff_0000 ≤ number). delta_three (f ∙ ap (λ form. form ++ rest) (if_not_ltb number 0x3ff_0000 (two_unit_form 0xfc00 number) (three_unit_form 0xffff number) larger)))
      (cases_lt number 0x3ff_0000))
      (cases_lt number 0xfc00)
