-- Blocks that stand among the data cells.
use Rattle.std.proofs.Common.{◌≡◌, ℕ, ◌+◌, ◌-◌, ◌*◌, ◌<◌, ◌≤◌, List, [], ◌∷◌, ◌++◌, length, map, get_or, refl, sym, ap, ◌∙◌, subst, arith, ⊎_elim}
use Rattle.std.specs.Prelude.{slice_index}
use Rattle.std.proofs.lemmas.Bool.{cases_lt}
use Rattle.std.proofs.lemmas.List.{get_or_append_left, get_or_push, length_push, get_or-map}
use Rattle.icu_codepointtrie.specs.Blocks.{block, AreKept, AreSlots}
use Rattle.icu_codepointtrie.specs.DataCells.{Stands, Grows, AllStand, IsPutting}
use Rattle.icu_codepointtrie.proofs.built.BlockLemmas.{at_block}

-- what stands among the cells still does when they grow
pub Stands-grown : (values : List ℕ) (first : ℕ) (old new : List ℕ) (slot width most : ℕ) → Stands values first old slot width → Grows old new most → Stands values first new slot width
Stands-grown values first old new slot width most stands grows =
    record {
      inside = omega (arith, stands.inside, grows.longer);
      same = λ i h. let s = stands.inside in grows.same (slot + i) (omega arith) ∙ stands.same i h;
    }

pub Grows-none : (cells : List ℕ) (most : ℕ) → Grows cells cells most
Grows-none cells most = record { longer = omega arith; few = omega arith; same = λ i h. refl }

-- one growth after another
pub Grows-then : (one two three : List ℕ) (a b c : ℕ) → a + b ≤ c → Grows one two a → Grows two three b → Grows one three c
Grows-then one two three a b c sum first second =
    record {
      longer = omega (arith, first.longer, second.longer);
      few = omega (arith, first.few, second.few);
      same = λ i h. let f = first.longer in second.same i (omega arith) ∙ first.same i h;
    }

-- one more value of a block
pub IsPutting-step : (values : List ℕ) (first : ℕ) (old cells : List ℕ) (slot i value : ℕ) → value ≡ slice_index values (first + i)
    → IsPutting values first old cells slot i → IsPutting values first old (cells ++ value ∷ []) slot (i + 1)
IsPutting-step values first old cells slot i value is before =
    let count : length cells ≡ slot + i = before.count in
    let longer = before.longer in
    record {
      count = omega (arith, length_push cells value);
      longer = omega arith;
      old_same = λ k h. get_or_append_left cells (value ∷ []) 0 k (omega arith) ∙ before.old_same k h;
      same = λ k h. ⊎_elim
          (λ below. get_or_append_left cells (value ∷ []) 0 (slot + k) (omega arith) ∙ before.same k below)
          (λ above. let last : k ≡ i = omega arith in rw last (get_or_push cells value 0 (slot + i) count ∙ is))
          (cases_lt k i);
    }

-- the block whose end agrees with the first values begins there
pub IsPutting-first : (values : List ℕ) (first : ℕ) (old : List ℕ) (slot common : ℕ) → slot + common ≡ length old → Stands values first old slot common → IsPutting values first old old slot common
IsPutting-first values first old slot common sum stands = record { count = omega arith; longer = omega arith; old_same = λ k h. refl; same = stands.same }

-- when all of its values are put
pub IsPutting-stands : (values : List ℕ) (first : ℕ) (old cells : List ℕ) (slot width : ℕ) → IsPutting values first old cells slot width → Stands values first cells slot width
IsPutting-stands values first old cells slot width p = record { inside = omega (arith, p.count); same = p.same }

pub IsPutting-grows : (values : List ℕ) (first : ℕ) (old cells : List ℕ) (slot width : ℕ) → slot ≤ length old → IsPutting values first old cells slot width → Grows old cells width
IsPutting-grows values first old cells slot width from p = record { longer = omega (arith, p.count, p.longer); few = omega (arith, p.count); same = p.old_same }

-- one block more has its slot
pub stand_push : (values blocks : List ℕ) (width n : ℕ) (old new slots : List ℕ) (slot most : ℕ) → length slots ≡ n → Grows old new most
    → ((i : ℕ) → i < n → Stands values (slice_index blocks i * width) old (slice_index slots i) width)
    → Stands values (slice_index blocks n * width) new slot width
    → (i : ℕ) → i < n + 1 → Stands values (slice_index blocks i * width) new (slice_index (slots ++ slot ∷ []) i) width
stand_push values blocks width n old new slots slot most count grows each last i h =
    ⊎_elim
    (λ below. rw (get_or_append_left slots (slot ∷ []) 0 i (omega arith)) (Stands-grown values (slice_index blocks i * width) old new (slice_index slots i) width most (each i below) grows))
    (λ above.
    let same : n ≡ i = omega arith in
    rw (get_or_push slots slot 0 i (count ∙ same)) (subst (λ k. Stands values (slice_index blocks k * width) new slot width) same last))
    (cases_lt i n)

-- where a block stands each block stands that is like it
pub Stands-alike : (values cells : List ℕ) (width a b slot : ℕ) → a * width + width ≤ length values → b * width + width ≤ length values → block width values a ≡ block width values b
    → Stands values (a * width) cells slot width → Stands values (b * width) cells slot width
Stands-alike values cells width a b slot one other alike stands =
    record {
      inside = stands.inside;
      same = λ i h. stands.same i h ∙ sym (at_block width values a i one h) ∙ ap (λ (xs : List ℕ). get_or xs i 0) alike ∙ at_block width values b i other h;
    }

-- so all blocks stand at the slots of the kept ones that they are like
pub AllStand-kept : (width : ℕ) (values : List ℕ) (first end : ℕ) (kept slots cells starts : List ℕ) → ((b : ℕ) → b < end → b * width + width ≤ length values)
    → AreKept width values first end kept → AreSlots width values first end slots kept
    → ((i : ℕ) → i < length kept → Stands values (slice_index kept i * width) cells (slice_index starts i) width)
    → AllStand width values first end cells (map (slice_index starts) slots)
AllStand-kept width values first end kept slots cells starts whole are at stand b from before =
    let count : length slots ≡ end - first = at.count in
    let inside : b - first < length slots = omega arith in
    let n : ℕ = slice_index slots (b - first) in
    let kept_n : n < length kept = at.inside (b - first) inside in
    rw (get_or-map (slice_index starts) slots (b - first) 0 0 inside)
    (Stands-alike values cells width (slice_index kept n) b (slice_index starts n) (are.whole n kept_n) (whole b before) (at.alike b from before) (stand n kept_n))
