-- Blocks that are kept once each.
use Rattle.std.proofs.Common.{◌≡◌, ℕ, ◌+◌, ◌-◌, ◌*◌, ◌<◌, ◌≤◌, ◌≢◌, List, [], ◌∷◌, ◌++◌, length, map, get_or, drop, Bool, true, false, cond, refl, sym, ap, ◌∙◌, subst, arith, ⊎_elim}
use Rattle.std.specs.Prelude.{slice_index, nat_eq}
use Rattle.std.specs.List.{IsDistinct, All}
use Rattle.std.specs.Cmp.Lexicographic.{pointwise}
use mathlib.Core.Bool.{true≢false}
use Rattle.std.proofs.lemmas.Bool.{cases_lt, false_from_ne_true}
use Rattle.std.proofs.lemmas.Cmp.{nat_list_eq_equiv}
use Rattle.std.proofs.lemmas.List.{get_or_append_left, get_or_push, length_push, map_push, get_or_default, get_or-take, get_or-drop, length-take-le, length-drop, ext_get_or}
use Rattle.std.proofs.lemmas.List.Folds.{list_any_none}
use Rattle.std.proofs.lemmas.List.Elements.{All-map}
use Rattle.std.proofs.lemmas.Map.Keys.{IsDistinct-push}
use Rattle.std.proofs.lemmas.Slice.Eq.{bytes_eq-Decides}
use Rattle.std.proofs.lemmas.Option.{slice_get_within, get_or_from_slice_get}
use Rattle.std.specs.Prelude.{IfSome, slice_get, Option, Some, None}
use Rattle.icu_codepointtrie.specs.Blocks.{block, AreKept, AreSlots, IsKeptAt, IsFound, FindsKept}
use Rattle.icu_codepointtrie.specs.declared.builder.blocks.Block.{Block}
use Rattle.std.specs.HashMap.{HashMap}

-- what holds of each kept number and of one more
push_all : (P : ℕ → Type 0) (kept : List ℕ) (number : ℕ) → ((i : ℕ) → i < length kept → P (slice_index kept i)) → P number → (i : ℕ) → i < length (kept ++ number ∷ []) → P (slice_index (kept ++ number ∷ []) i)
push_all P kept number each last i h =
    ⊎_elim
    (λ below. subst P (sym (get_or_append_left kept (number ∷ []) 0 i below)) (each i below))
    (λ above. let same : length kept ≡ i = omega (arith, length_push kept number) in subst P (sym (get_or_push kept number 0 i same)) last)
    (cases_lt i (length kept))

-- a block that is like no kept one joins them
pub AreKept-push : (width : ℕ) (values : List ℕ) (first number : ℕ) (kept : List ℕ) → first ≤ number → number * width + width ≤ length values
    → AreKept width values first number kept
    → ((i : ℕ) → i < length kept → block width values (slice_index kept i) ≢ block width values number)
    → AreKept width values first (number + 1) (kept ++ number ∷ [])
AreKept-push width values first number kept from whole before unlike =
    let f : ℕ → List ℕ = block width values in
    let apart : All (λ (j : ℕ). pointwise nat_eq (f number) (f j) ≡ false) kept =
    λ i d h. false_from_ne_true _ (λ same. unlike i h (ap f (sym (get_or_default kept i d 0 h)) ∙ sym ((bytes_eq-Decides (f number) (f (get_or kept i d))).0 same))) in
    record {
      from = push_all (λ n. first ≤ n) kept number before.from from;
      before = push_all (λ n. n < number + 1) kept number (λ i h. let b = before.before i h in omega arith) (omega arith);
      whole = push_all (λ n. n * width + width ≤ length values) kept number before.whole whole;
      few = let b = before.few in omega (arith, length_push kept number);
      different = rw (map_push f kept number) (IsDistinct-push nat_list_eq_equiv (map f kept) (f number) before.different (list_any_none (pointwise nat_eq (f number)) (map f kept) (All-map (λ ys. pointwise nat_eq (f number) ys ≡ false) f kept apart)));
    }

-- no block is kept at first
pub AreKept-none : (width : ℕ) (values : List ℕ) (first : ℕ) (kept : List ℕ) → kept ≡ [] → AreKept width values first first kept
unfolding IsDistinct
AreKept-none width values first kept none = rw none record { from = λ i h. absurd (omega arith); before = λ i h. absurd (omega arith); whole = λ i h. absurd (omega arith); few = omega arith; different = tt }

-- none is found at first
pub FindsKept-none : {S : Type 0} (width : ℕ) (values kept : List ℕ) (found : HashMap Block ℕ S) → kept ≡ [] → found.entries ≡ [] → FindsKept width values kept found
FindsKept-none width values kept found none empty q = rw (none, empty) (λ i h. absurd (omega arith))

-- no block is wanted at first
pub AreSlots-none : (width : ℕ) (values : List ℕ) (first : ℕ) (slots kept : List ℕ) → slots ≡ [] → AreSlots width values first first slots kept
AreSlots-none width values first slots kept none = rw none record { count = omega arith; inside = λ i h. absurd (omega arith); alike = λ b from before. absurd (omega arith) }

-- blocks between two numbers are between further ones
pub AreKept-further : (width : ℕ) (values : List ℕ) (first number end : ℕ) (kept : List ℕ) → number ≤ end → AreKept width values first number kept → AreKept width values first end kept
AreKept-further width values first number end kept further h =
    record { from = h.from; before = λ i inside. let b = h.before i inside in omega arith; whole = h.whole; few = let b = h.few in omega arith; different = h.different }

-- one more block has its slot, and those before stay at theirs
pub AreSlots-push : (width : ℕ) (values : List ℕ) (first number : ℕ) (slots kept grown : List ℕ) (slot : ℕ) → first ≤ number
    → AreSlots width values first number slots kept
    → ((i : ℕ) → i < length kept → (i < length grown) × (slice_index grown i ≡ slice_index kept i))
    → IsKeptAt width values number grown slot
    → AreSlots width values first (number + 1) (slots ++ slot ∷ []) grown
AreSlots-push width values first number slots kept grown slot from before stay last =
    let count : length slots ≡ number - first = before.count in
    let old : (b : ℕ) → first ≤ b → b < number → slice_index (slots ++ slot ∷ []) (b - first) ≡ slice_index slots (b - first) =
    λ b low high. get_or_append_left slots (slot ∷ []) 0 (b - first) (omega arith) in
    let new : slice_index (slots ++ slot ∷ []) (number - first) ≡ slot = get_or_push slots slot 0 (number - first) count in
    record {
      count = omega (arith, length_push slots slot);
      inside = push_all (λ n. n < length grown) slots slot (λ i h. (stay (slice_index slots i) (before.inside i h)).0) last.0;
      alike = λ b low high. ⊎_elim
          (λ below. rw (old b low below) (rw ((stay (slice_index slots (b - first)) (before.inside (b - first) (omega arith))).1) (before.alike b low below)))
          (λ above. let same : number ≡ b = omega arith in subst (λ n. block width values (slice_index grown (slice_index (slots ++ slot ∷ []) (n - first))) ≡ block width values n) same (rw new last.1))
          (cases_lt b number);
    }

-- the slot of the block before, if there is one, is that of a kept one
pub last_inside : (width : ℕ) (values : List ℕ) (first number : ℕ) (slots kept : List ℕ) (last : Option ℕ) → first ≤ number
    → AreSlots width values first number slots kept → last ≡ slice_get slots (length slots - 1) → IfSome last (λ slot. slot < length kept)
last_inside width values first number slots kept None from h same = tt
last_inside width values first number slots kept (Some slot) from h same =
    let within : length slots - 1 < length slots = slice_get_within slots (length slots - 1) slot (sym same) in
    let value : slice_index slots (length slots - 1) ≡ slot = get_or_from_slice_get slots (length slots - 1) slot 0 (sym same) in
    rw value at (h.inside (length slots - 1) within)

-- a number of a block that is whole
pub at_block : (width : ℕ) (xs : List ℕ) (i k : ℕ) → i * width + width ≤ length xs → k < width → get_or (block width xs i) k 0 ≡ get_or xs (i * width + k) 0
at_block width xs i k whole inside =
    get_or-take (i * width + width - i * width) (drop (i * width) xs) k 0 (omega arith) ∙ get_or-drop (i * width) xs k 0

length-block : (width : ℕ) (xs : List ℕ) (i : ℕ) → i * width + width ≤ length xs → length (block width xs i) ≡ width
length-block width xs i whole =
    let one : i * width + width - i * width ≡ width = omega arith in
    length-take-le (i * width + width - i * width) (drop (i * width) xs) (omega (arith, length-drop (i * width) xs)) ∙ one

-- blocks that have the same numbers are the same
pub same_block : (width : ℕ) (xs ys : List ℕ) (i j : ℕ) → i * width + width ≤ length xs → j * width + width ≤ length ys
    → ((k : ℕ) → k < width → get_or xs (i * width + k) 0 ≡ get_or ys (j * width + k) 0) → block width xs i ≡ block width ys j
same_block width xs ys i j whole other same =
    let count = length-block width xs i whole in
    ext_get_or 0 (block width xs i) (block width ys j) (count ∙ sym (length-block width ys j other))
    (λ k h. let inside : k < width = omega (arith, count) in at_block width xs i k whole inside ∙ same k inside ∙ sym (at_block width ys j k other inside))

-- and where one number differs the blocks do
pub other_block : (width : ℕ) (xs : List ℕ) (i j k : ℕ) → i * width + width ≤ length xs → j * width + width ≤ length xs → k < width
    → get_or xs (i * width + k) 0 ≢ get_or xs (j * width + k) 0 → block width xs i ≢ block width xs j
other_block width xs i j k whole other inside differ same =
    differ (sym (at_block width xs i k whole inside) ∙ ap (λ (ys : List ℕ). get_or ys k 0) same ∙ at_block width xs j k other inside)

-- what is not found is like no kept block
pub not_found : (width : ℕ) (values kept : List ℕ) (number : ℕ) (key : List ℕ) (found : Option ℕ) → key ≡ block width values number → found ≡ None
    → IsFound width values kept key found → (i : ℕ) → i < length kept → block width values (slice_index kept i) ≢ block width values number
not_found width values kept number key found is none h i inside same = (rw none at h) i inside (same ∙ sym is)

-- the slot of one more kept block is found by its numbers
pub IsFound-push : (width : ℕ) (values : List ℕ) (kept : List ℕ) (number slot : ℕ) (numbers key : List ℕ) (old new : Option ℕ) → key ≡ block width values number
    → slot ≡ length kept → new ≡ cond (pointwise nat_eq key numbers) (Some slot) old
    → IsFound width values kept numbers old → IsFound width values (kept ++ number ∷ []) numbers new
IsFound-push width values kept number slot numbers key old new is count changed before = rw changed (by (pointwise nat_eq key numbers) refl old before) where
  by : (t : Bool) → pointwise nat_eq key numbers ≡ t → (was : Option ℕ) → IsFound width values kept numbers was → IsFound width values (kept ++ number ∷ []) numbers (cond t (Some slot) was)
  by true same was h =
      (omega (arith, length_push kept number), ap (block width values) (get_or_push kept number 0 slot (sym count)) ∙ sym is ∙ (bytes_eq-Decides key numbers).0 same)
  by false same None h =
      push_all (λ n. block width values n ≢ numbers) kept number h
      (λ e. true≢false (sym ((bytes_eq-Decides key numbers).1 (is ∙ e)) ∙ same))
  by false same (Some was) h =
      (omega (arith, length_push kept number, h.0), ap (block width values) (get_or_append_left kept (number ∷ []) 0 was h.0) ∙ h.1)
