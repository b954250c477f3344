-- Units that are written in front of others lay what they are written for.
use Rattle.std.proofs.Common.{◌≡◌, ℕ, ℤ, ◌+◌, ◌-◌, ◌*◌, ◌/◌, ◌<◌, ◌≤◌, List, [], ◌∷◌, ◌++◌, length, take, drop, refl, ap, ◌∙◌, sym, subst, arith, Bor, pos, slice_range, slice_index_or, length-append}
use Rattle.std.proofs.lemmas.List.{map-append, length-map, take-append-drop}
use Rattle.std.proofs.Math.Seq.{take-append_seam, drop-append_seam}
use Rattle.std.proofs.lemmas.Option.{slice_get_within}
use Rattle.std.specs.Int.{cast_signed, w32}
use Rattle.icu_char16trie.specs.UnitNumberForms.{number_form, intermediate_form, delta_form}
use Rattle.icu_char16trie.specs.UnitPairs.{AreSorted, HaveUnits, FirstGoesOn, rests, prefixed, spread, AreGroups, parts, room, Extends}
use Rattle.icu_char16trie.specs.UnitLayouts.{Lays, node, follows, within}
use Rattle.icu_char16trie.specs.UnitLayouts as layout
use Rattle.icu_char16trie.specs.declared.writer.group.Group.{Group}
use Rattle.icu_char16trie.proofs.Writing.NumberFormLemmas.{reads_number, reads_intermediate}
use Rattle.icu_char16trie.proofs.Pairs.SortedPairLemmas.{rests_length, sorted_longer, sorted_run, room_append, room_behind, room_run}
use Rattle.icu_char16trie.proofs.Pairs.GroupLemmas.{groups_bounds, groups_wider, groups_halved, spread_append}

-- what stands at no index
abbrev pub no_key : Bor (List ℕ) × ℤ
no_key = (record { ref_ptr = (0, 0); now = [] }, pos 0)

abbrev pub no_group : Group
no_group = record { unit = 0; pairs = record { ref_ptr = (0, 0); now = [] } }

-- a node

pub final_lays : (number : ℕ) (value : ℤ) (old new : List ℕ) (pairs : List (List ℕ × ℤ)) → new ≡ number_form 0x8000 number ++ old
    → cast_signed w32 number ≡ value → pairs ≡ ([], value) ∷ [] → Lays new (node pairs)
final_lays number value old new pairs e is p =
    subst (λ units. Lays units (node pairs)) (sym e)
    (subst (λ pairs. Lays (number_form 0x8000 number ++ old) (node pairs)) (ap (λ value. ([], value) ∷ []) is ∙ sym p) (layout.final number old))

pub rests_one : (depth : ℕ) (pairs : List (Bor (List ℕ) × ℤ)) → length pairs ≡ 1 → rests depth (drop 1 pairs) ≡ []
rests_one depth [] one = absurd (omega (arith, one))
rests_one depth (pair ∷ []) one = refl
rests_one depth (pair ∷ next ∷ pairs) one = absurd (omega (arith, one))

pub longer_all : (pairs : List (List ℕ × ℤ)) → FirstGoesOn pairs → AreSorted pairs → HaveUnits pairs
longer_all [] long sorted = tt
longer_all (pair ∷ pairs) long sorted = (long, sorted_longer pair pairs sorted)

pub longer_rest : (depth : ℕ) (pairs : List (Bor (List ℕ) × ℤ)) → AreSorted (rests depth pairs) → HaveUnits (rests depth (drop 1 pairs))
longer_rest depth [] sorted = tt
longer_rest depth (pair ∷ pairs) sorted = sorted_longer (drop depth pair.0.now, pair.1) (rests depth pairs) sorted

-- what all keys go on with

pub run_lays : (n : ℕ) (units mid new : List ℕ) (pairs all : List (List ℕ × ℤ)) → length units ≡ n → 0 < n → n ≤ 16 → all ≡ prefixed units pairs → Lays mid (node pairs) → new ≡ units ++ mid
    → Lays new (follows (0x2f + n) all)
run_lays n units mid new pairs all l some short p h e =
    subst (λ new. Lays new (follows (0x2f + n) all)) (sym e)
    (subst (λ all. Lays (units ++ mid) (follows (0x2f + n) all)) (sym p)
    (subst (λ n. Lays (units ++ mid) (follows (0x2f + n) (prefixed units pairs))) l (layout.run units mid pairs (omega (arith, l, some)) (omega (arith, l, short)) h)))

head_key : List (List ℕ × ℤ) → List ℕ
head_key [] = []
head_key (pair ∷ pairs) = pair.0

first_run : (depth n : ℕ) (pairs : List (Bor (List ℕ) × ℤ)) (d : Bor (List ℕ) × ℤ) (units : List ℕ) → 0 < length pairs → rests depth pairs ≡ prefixed units (rests (depth + n) pairs)
    → drop depth (slice_index_or pairs 0 d).0.now ≡ units ++ drop (depth + n) (slice_index_or pairs 0 d).0.now
unfolding head_key
first_run depth n [] d units some e = absurd (omega (arith, some))
first_run depth n (pair ∷ pairs) d units some e = ap head_key e

pub run_units : (depth n : ℕ) (pairs : List (Bor (List ℕ) × ℤ)) (d : Bor (List ℕ) × ℤ) (units : List ℕ) → 0 < length pairs → length units ≡ n
    → rests depth pairs ≡ prefixed units (rests (depth + n) pairs) → slice_range (slice_index_or pairs 0 d).0.now depth (depth + n) ≡ units
run_units depth n pairs d units some l e =
    let key : List ℕ = (slice_index_or pairs 0 d).0.now in
    let count : depth + n - depth ≡ length units = omega (arith, l) in
    ap (λ n. take n (drop depth key)) count ∙ ap (λ xs. take (length units) xs) (first_run depth n pairs d units some e) ∙ take-append_seam units (drop (depth + n) key)

pub run_room : (depth n : ℕ) (pairs : List (Bor (List ℕ) × ℤ)) (units : List ℕ) → 0 < length pairs → length units ≡ n → rests depth pairs ≡ prefixed units (rests (depth + n) pairs)
    → 10 * n + room (rests (depth + n) pairs) ≤ room (rests depth pairs)
run_room depth n pairs units some l e =
    let c = rests_length (depth + n) pairs in
    let r = room_run units (rests (depth + n) pairs) (omega (arith, c, some)) in
    let f = ap room e in
    omega (arith, r, f, l)

pub run_sorted : (depth n : ℕ) (pairs : List (Bor (List ℕ) × ℤ)) (units : List ℕ) → rests depth pairs ≡ prefixed units (rests (depth + n) pairs) → AreSorted (rests depth pairs) → AreSorted (rests (depth + n) pairs)
run_sorted depth n pairs units e sorted = sorted_run units (rests (depth + n) pairs) (subst (λ pairs. AreSorted pairs) e sorted)

-- a branch after its type

pub few_lays : (kind : ℕ) (mid : List ℕ) (groups : List (ℕ × List (List ℕ × ℤ))) (all : List (List ℕ × ℤ)) → 0 < kind → kind < 0x30 → length groups ≡ kind + 1
    → Lays mid (within 0 0x10000 groups) → spread groups ≡ all → Lays mid (follows kind all)
few_lays kind mid groups all some few l h e = subst (λ all. Lays mid (follows kind all)) e (layout.few kind mid groups some few l h)

pub many_lays : (most : ℕ) (mid new : List ℕ) (groups : List (ℕ × List (List ℕ × ℤ))) (all : List (List ℕ × ℤ)) → new ≡ most ∷ mid
    → length groups ≡ most + 1 → Lays mid (within 0 0x10000 groups) → spread groups ≡ all → Lays new (follows 0 all)
many_lays most mid new groups all p l h e =
    subst (λ new. Lays new (follows 0 all)) (sym p) (subst (λ all. Lays (most ∷ mid) (follows 0 all)) e (layout.many most mid groups l h))

pub groups_some : (groups : List (ℕ × List (List ℕ × ℤ))) (all : List (List ℕ × ℤ)) → spread groups ≡ all → 0 < length all → 0 < length groups
groups_some [] all e some = let l = ap length e in absurd (omega (arith, l, some))
groups_some (group ∷ groups) all e some = omega arith

pub parts_length : (depth : ℕ) (groups : List Group) → length (parts depth groups) ≡ length groups
parts_length depth groups = length-map groups (λ group. (group.unit, rests (depth + 1) group.pairs.now))

pub parts_bound : (depth : ℕ) (groups : List Group) → AreGroups 0 0x10000 (parts depth groups) → length groups ≤ 0x10000
parts_bound depth groups h = let b = groups_bounds 0 0x10000 (parts depth groups) h in let l = parts_length depth groups in omega (arith, b, l)

-- the first of the entries

pub parts_first : (depth : ℕ) (groups : List Group) (d : Group) → 0 < length groups
    → parts depth groups ≡ ((slice_index_or groups 0 d).unit, rests (depth + 1) (slice_index_or groups 0 d).pairs.now) ∷ parts depth (drop 1 groups)
parts_first depth [] d some = absurd (omega (arith, some))
parts_first depth (group ∷ groups) d some = refl

-- what the first group asks for
pub record FirstGroup (unit : ℕ) (pairs : List (List ℕ × ℤ)) (groups all : List (ℕ × List (List ℕ × ℤ))) : Type 0 where
  pub some : 0 < length pairs
  pub sorted : AreSorted pairs
  pub others : AreGroups 0 0x10000 groups
  pub sum : room (spread all) ≡ 10 * length pairs + room pairs + room (spread groups)

pub first_group : (unit : ℕ) (pairs : List (List ℕ × ℤ)) (groups all : List (ℕ × List (List ℕ × ℤ))) → all ≡ (unit, pairs) ∷ groups → AreGroups 0 0x10000 all → FirstGroup unit pairs groups all
first_group unit pairs groups all e h =
    let g : AreGroups 0 0x10000 ((unit, pairs) ∷ groups) = subst (λ all. AreGroups 0 0x10000 all) e h in
    record {
      some = g.2;
      sorted = g.3;
      others = groups_wider (unit + 1) 0x10000 0 0x10000 groups (omega arith) (omega arith) g.4;
      sum = ap (λ all. room (spread all)) e ∙ room_append (prefixed (unit ∷ []) pairs) (spread groups) ∙ ap (λ n. n + room (spread groups)) (room_behind unit pairs);
    }

-- units that lay the groups, between any bounds that hold
abbrev pub LaysGroups : List ℕ → List (ℕ × List (List ℕ × ℤ)) → Type 0
LaysGroups units groups = (low high : ℕ) → AreGroups low high groups → Lays units (within low high groups)

pub last_lays : (unit : ℕ) (mid new : List ℕ) (pairs : List (List ℕ × ℤ)) (all : List (ℕ × List (List ℕ × ℤ))) → new ≡ unit ∷ mid
    → Lays mid (node pairs) → all ≡ (unit, pairs) ∷ [] → LaysGroups new all
last_lays unit mid new pairs all p h e = λ low high g.
    let g : AreGroups low high ((unit, pairs) ∷ []) = subst (λ all. AreGroups low high all) e g in
    subst (λ new. Lays new (within low high all)) (sym p)
    (subst (λ all. Lays (unit ∷ mid) (within low high all)) (sym e) (layout.last low high unit mid pairs g.0 g.1 h))

pub value_lays : (unit number : ℕ) (value : ℤ) (mid put new : List ℕ) (pairs : List (List ℕ × ℤ)) (groups all : List (ℕ × List (List ℕ × ℤ)))
    → new ≡ unit ∷ put → put ≡ number_form 0x8000 number ++ mid → cast_signed w32 number ≡ value → pairs ≡ ([], value) ∷ [] → LaysGroups mid groups
    → 0 < length groups → length groups < 5 → all ≡ (unit, pairs) ∷ groups → LaysGroups new all
value_lays unit number value mid put new pairs groups all p q is alone h some few e = λ low high g.
    let one : pairs ≡ ([], cast_signed w32 number) ∷ [] = alone ∙ ap (λ value. ([], value) ∷ []) (sym is) in
    let g : AreGroups low high ((unit, pairs) ∷ groups) = subst (λ all. AreGroups low high all) e g in
    subst (λ new. Lays new (within low high all)) (sym (p ∙ ap (λ put. unit ∷ put) q))
    (subst (λ all. Lays (unit ∷ (number_form 0x8000 number ++ mid)) (within low high all)) (sym (e ∙ ap (λ pairs. (unit, pairs) ∷ groups) one))
    (layout.value low high unit number mid groups g.0 g.1 some few (h (unit + 1) high g.4)))

number_some : (number : ℕ) (rest : List ℕ) → 0 < length (number_form 0x8000 number ++ rest)
number_some number rest =
    let r = reads_number (number_form 0x8000 number ++ rest) 0 0x8000 number rest refl in
    let w = slice_get_within (number_form 0x8000 number ++ rest) 0 (0x8000 + r.lead) r.at in
    omega (arith, w)

intermediate_some : (kind number : ℕ) (rest : List ℕ) → kind < 0x40 → 0 < length (intermediate_form kind number ++ rest)
intermediate_some kind number rest low =
    let r = reads_intermediate (intermediate_form kind number ++ rest) 0 kind number rest low refl in
    let w = slice_get_within (intermediate_form kind number ++ rest) 0 r.lead r.at in
    omega (arith, w)

node_some : {units : List ℕ} {pairs : List (List ℕ × ℤ)} → Lays units (node pairs) → 0 < length units
node_some (layout.final number units) = number_some number units
node_some (layout.valued kind number units pairs low h) = intermediate_some kind number units low
node_some (layout.bare kind units pairs low h) = omega arith

within_some : {units : List ℕ} {low high : ℕ} {groups : List (ℕ × List (List ℕ × ℤ))} → Lays units (within low high groups) → 0 < length units
within_some (layout.last low high unit units pairs from below h) = omega arith
within_some (layout.value low high unit number units groups from below some few h) = omega arith
within_some (layout.jump low high unit distance units pairs groups from below some few short to h) = omega arith
within_some (layout.halves low high middle distance units lowers uppers from below many count short to h) = omega arith

-- what was written earlier lies as far on as units were written since
module _ (old new : List ℕ) (h : Extends old new) where
  pub extends_front : length new - length old ≡ length h.0
  extends_front = let l = ap length h.1 ∙ length-append h.0 old in omega (arith, l)

  pub extends_drop : drop (length new - length old) new ≡ old
  extends_drop = ap (λ n. drop n new) extends_front ∙ ap (λ xs. drop (length h.0) xs) h.1 ∙ drop-append_seam h.0 old

  pub extends_short : 0 < length old → length new - length old < length new
  extends_short some = let l = ap length h.1 ∙ length-append h.0 old in omega (arith, l, some)

pub jump_lays : (unit : ℕ) (child mid put new : List ℕ) (pairs : List (List ℕ × ℤ)) (groups all : List (ℕ × List (List ℕ × ℤ)))
    → new ≡ unit ∷ put → put ≡ number_form 0 (length mid - length child) ++ mid → Extends child mid → Lays child (node pairs) → LaysGroups mid groups
    → 0 < length groups → length groups < 5 → all ≡ (unit, pairs) ∷ groups → LaysGroups new all
jump_lays unit child mid put new pairs groups all p q ext to h some few e = λ low high g.
    let g : AreGroups low high ((unit, pairs) ∷ groups) = subst (λ all. AreGroups low high all) e g in
    subst (λ new. Lays new (within low high all)) (sym (p ∙ ap (λ put. unit ∷ put) q))
    (subst (λ all. Lays (unit ∷ (number_form 0 (length mid - length child) ++ mid)) (within low high all)) (sym e)
    (layout.jump low high unit (length mid - length child) mid pairs groups g.0 g.1 some few (extends_short child mid ext (node_some to))
    (subst (λ units. Lays units (node pairs)) (sym (extends_drop child mid ext)) to) (h (unit + 1) high g.4)))

-- the halves of a branch

pub parts_split : (depth n : ℕ) (groups : List Group) → parts depth groups ≡ parts depth (take n groups) ++ parts depth (drop n groups)
parts_split depth n groups =
    ap (λ groups. parts depth groups) (sym (take-append-drop n groups))
    ∙ map-append (λ group. (group.unit, rests (depth + 1) group.pairs.now)) (take n groups) (drop n groups)

-- what halves of groups ask for
pub record Halves (unit : ℕ) (lowers uppers all : List (ℕ × List (List ℕ × ℤ))) : Type 0 where
  pub lower : AreGroups 0 0x10000 lowers
  pub upper : AreGroups 0 0x10000 uppers
  pub sum : room (spread all) ≡ room (spread lowers) + room (spread uppers)
  pub between : (low high : ℕ) → AreGroups low high all → (low < unit) × (unit < high) × AreGroups low unit lowers × AreGroups unit high uppers

pub halves_of : (unit : ℕ) (pairs : List (List ℕ × ℤ)) (lowers groups all : List (ℕ × List (List ℕ × ℤ))) → all ≡ lowers ++ (unit, pairs) ∷ groups → 0 < length lowers → AreGroups 0 0x10000 all
    → Halves unit lowers ((unit, pairs) ∷ groups) all
halves_of unit pairs lowers groups all e some g =
    let cut : (low high : ℕ) → AreGroups low high all → AreGroups low unit lowers × AreGroups unit high ((unit, pairs) ∷ groups) = λ low high g.
    groups_halved low high lowers (unit, pairs) groups (subst (λ all. AreGroups low high all) e g) in
    let c = cut 0 0x10000 g in
    let below : unit < 0x10000 = c.1.1 in
    record {
      lower = groups_wider 0 unit 0 0x10000 lowers (omega arith) (omega (arith, below)) c.0;
      upper = groups_wider unit 0x10000 0 0x10000 ((unit, pairs) ∷ groups) (omega arith) (omega arith) c.1;
      sum = ap (λ all. room (spread all)) e ∙ ap room (spread_append lowers ((unit, pairs) ∷ groups)) ∙ room_append (spread lowers) (spread ((unit, pairs) ∷ groups));
      between = λ low high g.
          let c = cut low high g in
          let b = groups_bounds low unit lowers c.0 in
          (omega (arith, b, some), c.1.1, c.0, c.1);
    }

-- the same of groups that are halved at an index
pub halves_at : (depth n : ℕ) (groups lower upper : List Group) (d : Group) → lower ≡ take n groups → upper ≡ drop n groups → 0 < length lower → 0 < length upper
    → AreGroups 0 0x10000 (parts depth groups) → Halves (slice_index_or upper 0 d).unit (parts depth lower) (parts depth upper) (parts depth groups)
halves_at depth n groups lower [] d l u some_lower some_upper g = absurd (omega (arith, some_upper))
halves_at depth n groups lower (first ∷ upper) d l u some_lower some_upper g =
    let c = parts_length depth lower in
    halves_of first.unit (rests (depth + 1) first.pairs.now) (parts depth lower) (parts depth upper) (parts depth groups)
    (parts_split depth n groups ∙ ap (λ lower. parts depth lower ++ parts depth (drop n groups)) (sym l) ∙ ap (λ upper. parts depth lower ++ parts depth upper) (sym u))
    (omega (arith, c, some_lower)) g

pub halves_lays : (unit : ℕ) (child mid put new : List ℕ) (lowers uppers all : List (ℕ × List (List ℕ × ℤ))) → new ≡ unit ∷ put
    → put ≡ delta_form (length mid - length child) ++ mid → Extends child mid → LaysGroups child lowers → LaysGroups mid uppers → 5 < length lowers + length uppers
    → length lowers ≡ (length lowers + length uppers) / 2 → all ≡ lowers ++ uppers → Halves unit lowers uppers all → LaysGroups new all
halves_lays unit child mid put new lowers uppers all p q ext to h many count e halves = λ low high g.
    let b = halves.between low high g in
    let lower = to low unit b.2 in
    subst (λ new. Lays new (within low high all)) (sym (p ∙ ap (λ put. unit ∷ put) q))
    (subst (λ all. Lays (unit ∷ (delta_form (length mid - length child) ++ mid)) (within low high all)) (sym e)
    (layout.halves low high unit (length mid - length child) mid lowers uppers b.0 b.1 many count (extends_short child mid ext (within_some lower))
    (subst (λ units. Lays units (within low unit lowers)) (sym (extends_drop child mid ext)) lower) (h unit high b.3)))

pub delta_length : (number : ℕ) → length (delta_form number) ≤ 3
delta_length number = grind arith

pub number_length : (highest number : ℕ) → length (number_form highest number) ≤ 3
number_length highest number = grind arith

pub parts_alone : (depth : ℕ) (groups : List Group) (d : Group) → length groups ≡ 1
    → parts depth groups ≡ ((slice_index_or groups 0 d).unit, rests (depth + 1) (slice_index_or groups 0 d).pairs.now) ∷ []
parts_alone depth [] d one = absurd (omega (arith, one))
parts_alone depth (group ∷ []) d one = refl
parts_alone depth (group ∷ next ∷ groups) d one = absurd (omega (arith, one))
