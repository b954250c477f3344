-- Numbers in the order of their keys: a map of the first of each key, and its values.
use Rattle.std.proofs.Common.{◌≡◌, ℕ, zero, suc, ◌+◌, ◌/◌, ◌<◌, ◌≤◌, ⊎_elim, Bool, true, false, List, [], ◌∷◌, ◌++◌, length, slice_index, take, get_or, Option, Some, None, ◌==◌, refl, sym, ap, subst, ◌∙◌, arith, cond}
use Rattle.std.specs.BTreeMap.{BTreeMap, btree_map_len, get, values, is_at, IsOrdered}
use Rattle.std.specs.List.{AllByRecursion, find}
use Rattle.std.specs.Map.{keys_of, values_of, lookup}
use Rattle.std.specs.Option.{option_or}
use Rattle.std.specs.Ordering.{nat_cmp}
use Rattle.std.proofs.lemmas.Bool.{cases_Bool, eqb-true}
use Rattle.std.proofs.lemmas.Bool.Decides.{nat_tests}
use Rattle.std.proofs.lemmas.Cmp.{nat_cmp_total}
use Rattle.std.proofs.lemmas.List.{take_more}
use Rattle.std.proofs.lemmas.List.Elements.{recursion_from_All}
use Rattle.std.proofs.lemmas.List.Folds.{find-append}
use Rattle.std.proofs.lemmas.Map.Entries.{btree_map_get_place, length-keys_of, length-values_of}
use Rattle.std.proofs.lemmas.Map.Keys.{below_from_sorted}
use Rattle.std.proofs.lemmas.Option.{slice_get-get_or}
use Rattle.icu_normalizer_core.specs.InOrder.{first_of, HasFirsts, AreFirstsInOrder}

-- ---- One element more

pub index_before : (xs ys : List ℕ) (i : ℕ) → i < length xs → slice_index (xs ++ ys) i ≡ slice_index xs i
index_before [] ys i h = absurd (omega arith)
index_before (x ∷ xs) ys zero h = refl
index_before (x ∷ xs) ys (suc i) h = index_before xs ys i (omega arith)

pub index_last : (xs : List ℕ) (y : ℕ) → slice_index (xs ++ y ∷ []) (length xs) ≡ y
index_last [] y = refl
index_last (x ∷ xs) y = index_last xs y

-- one more number is noted
pub firsts_noted : (divisor : ℕ) (numbers : List ℕ) (i n : ℕ) (old new : BTreeMap ℕ ℕ) → i < length numbers → slice_index numbers i ≡ n → HasFirsts divisor (take i numbers) old
    → ((key : ℕ) → get nat_cmp new key ≡ option_or (get nat_cmp old key) (cond (n / divisor == key) (Some n) None)) → HasFirsts divisor (take (i + 1) numbers) new
firsts_noted divisor numbers i n old new h is has noted key =
    noted key ∙ ap (λ (o : Option ℕ). option_or o (cond (n / divisor == key) (Some n) None)) (has key)
    ∙ sym (find-append (λ m. m / divisor == key) (take i numbers) (n ∷ []))
    ∙ ap (λ (xs : List ℕ). first_of divisor xs key) (sym (subst (λ (m : ℕ). take (i + 1) numbers ≡ take i numbers ++ m ∷ []) is (take_more numbers i 0 h)))

-- of which there are at most as many as numbers
pub few_more : (count more i : ℕ) → more ≤ count + 1 → count ≤ i → more ≤ i + 1
few_more count more i step few = omega arith

-- ---- The values of a map in the order of its keys, where each value has its key

is_at_key : (key k : ℕ) → is_at (nat_cmp key) k ≡ (k == key)
is_at_key key k = grind (arith, nat_tests)

abbrev Keyed : ℕ → List (ℕ × ℕ) → Type 0
Keyed divisor es = AllByRecursion (λ e. e.1 / divisor ≡ e.0) es

first_listed : (divisor key : ℕ) (es : List (ℕ × ℕ)) → Keyed divisor es → first_of divisor (values_of es) key ≡ lookup (is_at (nat_cmp key)) es
first_listed divisor key [] keyed = refl
first_listed divisor key (e ∷ es) keyed =
    ap (λ (b : Bool). cond b (Some e.1) (first_of divisor (values_of es) key)) (ap (λ (k : ℕ). k == key) keyed.0 ∙ sym (is_at_key key e.0))
    ∙ ap (λ (o : Option ℕ). cond (is_at (nat_cmp key) e.0) (Some e.1) o) (first_listed divisor key es keyed.1)

key_at : (divisor : ℕ) (es : List (ℕ × ℕ)) → Keyed divisor es → (i : ℕ) → i < length es → slice_index (values_of es) i / divisor ≡ slice_index (keys_of es) i
key_at divisor [] keyed i h = absurd (omega arith)
key_at divisor (e ∷ es) keyed zero h = keyed.0
key_at divisor (e ∷ es) keyed (suc i) h = key_at divisor es keyed.1 i (omega arith)

found_passes : {X : Type 0} (p : X → Bool) (xs : List X) (x : X) → find p xs ≡ Some x → p x ≡ true
found_passes p [] x e = absurd cc
found_passes {X} p (y ∷ ys) x e =
    ⊎_elim
    (λ (t : p y ≡ true).
    let same : Some y ≡ Some x = sym (ap (λ (b : Bool). cond b (Some y) (find p ys)) t) ∙ e in
    let here : y ≡ x = cc in
    subst (λ (z : X). p z ≡ true) here t)
    (λ (f : p y ≡ false). found_passes p ys x (sym (ap (λ (b : Bool). cond b (Some y) (find p ys)) f) ∙ e))
    (cases_Bool (p y))

-- each entry is the first of its key
abbrev AreOf : ℕ → List ℕ → List (ℕ × ℕ) → Type 0
AreOf divisor numbers es = AllByRecursion (λ e. first_of divisor numbers e.0 ≡ Some e.1) es

entries_of : (divisor : ℕ) (numbers : List ℕ) (firsts : BTreeMap ℕ ℕ) → HasFirsts divisor numbers firsts → IsOrdered nat_cmp firsts → AreOf divisor numbers firsts.entries
entries_of divisor numbers firsts has ordered =
    recursion_from_All (λ (e : ℕ × ℕ). first_of divisor numbers e.0 ≡ Some e.1) firsts.entries
    (λ i d h.
    let e : ℕ × ℕ = get_or firsts.entries i d in
    sym (has e.0) ∙ btree_map_get_place nat_cmp_total firsts i e.0 e.1 ordered (slice_get-get_or firsts.entries i d h))

with_key : (divisor : ℕ) (numbers : List ℕ) (e : ℕ × ℕ) → first_of divisor numbers e.0 ≡ Some e.1 → e.1 / divisor ≡ e.0
with_key divisor numbers e is = eqb-true (e.1 / divisor) e.0 (found_passes (λ n. n / divisor == e.0) numbers e.1 is)

with_keys : (divisor : ℕ) (numbers : List ℕ) (es : List (ℕ × ℕ)) → AreOf divisor numbers es → Keyed divisor es
with_keys divisor numbers [] all = tt
with_keys divisor numbers (e ∷ es) all = (with_key divisor numbers e all.0, with_keys divisor numbers es all.1)

kept_at : (divisor : ℕ) (numbers : List ℕ) (es : List (ℕ × ℕ)) → AreOf divisor numbers es → (i : ℕ) → i < length es
    → first_of divisor numbers (slice_index (values_of es) i / divisor) ≡ Some (slice_index (values_of es) i)
kept_at divisor numbers [] all i h = absurd (omega arith)
kept_at divisor numbers (e ∷ es) all zero h = subst (λ (k : ℕ). first_of divisor numbers k ≡ Some e.1) (sym (with_key divisor numbers e all.0)) all.0
kept_at divisor numbers (e ∷ es) all (suc i) h = kept_at divisor numbers es all.1 i (omega arith)

-- the numbers of a map of firsts are the firsts in order
pub firsts_in_order : (divisor : ℕ) (numbers sorted : List ℕ) (firsts : BTreeMap ℕ ℕ) → HasFirsts divisor numbers firsts → btree_map_len firsts ≤ length numbers
    → IsOrdered nat_cmp firsts → sorted ≡ values firsts → AreFirstsInOrder divisor numbers sorted
firsts_in_order divisor numbers sorted firsts has few ordered is =
    let of : AreOf divisor numbers firsts.entries = entries_of divisor numbers firsts has ordered in
    let keyed : Keyed divisor firsts.entries = with_keys divisor numbers firsts.entries of in
    let many : length (values_of firsts.entries) ≡ length firsts.entries = length-values_of firsts.entries in
    subst (AreFirstsInOrder divisor numbers) (sym is) (record {
      rise = λ i h.
          let within : suc i < length firsts.entries = subst (λ (n : ℕ). suc i < n) many h in
          let here : slice_index (values_of firsts.entries) i / divisor ≡ slice_index (keys_of firsts.entries) i = key_at divisor firsts.entries keyed i (omega arith) in
          let next : slice_index (values_of firsts.entries) (suc i) / divisor ≡ slice_index (keys_of firsts.entries) (suc i) = key_at divisor firsts.entries keyed (suc i) within in
          let up : slice_index (keys_of firsts.entries) i < slice_index (keys_of firsts.entries) (suc i) =
          below_from_sorted (keys_of firsts.entries) i (suc i) 0 ordered (omega arith) (subst (λ (n : ℕ). suc i < n) (sym (length-keys_of firsts.entries)) within) in
          omega arith;
      firsts = λ key. first_listed divisor key firsts.entries keyed ∙ has key;
      kept = λ i h. kept_at divisor numbers firsts.entries of i (subst (λ (n : ℕ). i < n) many h);
      few = subst (λ (n : ℕ). n ≤ length numbers) (sym many) few;
    })
