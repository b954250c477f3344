-- Lists of tables that grow at their ends keep what stood in them.
use Rattle.std.proofs.Common.{◌≡◌, ℕ, ◌+◌, ◌<◌, ◌≤◌, List, [], ◌++◌, length, take, drop, ap, sym, ◌∙◌, arith}
use Rattle.std.specs.Prelude.{slice_index}
use Rattle.std.proofs.lemmas.List.{append-nil, append_assoc, drop-append-le, get_or_append_left, length-append, length-drop, take-append-le}
use Rattle.icu_normalizer_core.specs.CanonicalWords.{items_at}
use Rattle.icu_collator_core.specs.Pools.{Pools}
use Rattle.collate_words.specs.Growth.{Grows, IsFrontOf}

pub IsFrontOf-refl : (list : List ℕ) → IsFrontOf list list
IsFrontOf-refl list = ([], sym (append-nil list))

pub IsFrontOf-trans : (a b c : List ℕ) → IsFrontOf a b → IsFrontOf b c → IsFrontOf a c
IsFrontOf-trans a b c first second =
    (first.0 ++ second.0, second.1 ∙ ap (λ (list : List ℕ). list ++ second.0) first.1 ∙ append_assoc a first.0 second.0)

pub Grows-refl : (pools : Pools) → Grows pools pools
Grows-refl pools = record {
  ces = IsFrontOf-refl pools.ces;
  ce32s = IsFrontOf-refl pools.ce32s;
  contexts = IsFrontOf-refl pools.contexts;
}

pub Grows-trans : (a b c : Pools) → Grows a b → Grows b c → Grows a c
Grows-trans a b c first second = record {
  ces = IsFrontOf-trans a.ces b.ces c.ces first.ces second.ces;
  ce32s = IsFrontOf-trans a.ce32s b.ce32s c.ce32s first.ce32s second.ce32s;
  contexts = IsFrontOf-trans a.contexts b.contexts c.contexts first.contexts second.contexts;
}

pub length-front : (list longer : List ℕ) → IsFrontOf list longer → length list ≤ length longer
length-front list longer front = omega (arith, ap length front.1, length-append list front.0)

pub items_at-front : (list longer : List ℕ) (index count : ℕ) → IsFrontOf list longer → index + count ≤ length list
    → items_at longer index count ≡ items_at list index count
items_at-front list longer index count front within =
    let below : index ≤ length list = omega arith
    in let left : count ≤ length (drop index list) = omega (arith, length-drop index list)
    in ap (λ (xs : List ℕ). take count (drop index xs)) front.1
    ∙ ap (take count) (drop-append-le index list front.0 below)
    ∙ take-append-le count (drop index list) front.0 left

pub slice_index-front : (list longer : List ℕ) (index : ℕ) → IsFrontOf list longer → index < length list
    → slice_index longer index ≡ slice_index list index
slice_index-front list longer index front within =
    ap (λ (xs : List ℕ). slice_index xs index) front.1 ∙ get_or_append_left list front.0 0 index within
