-- What tasks in front of others write.
use Rattle.std.proofs.Common.{◌≡◌, ℕ, ℤ, ◌+◌, ◌-◌, ◌*◌, ◌/◌, ◌^◌, ◌<◌, ◌≤◌, List, [], ◌∷◌, ◌++◌, length, Option, Some, None, refl, ap, ◌∙◌, sym, subst, arith, Bor, Result, Ok, Err, length-append}
use Rattle.std.specs.Int.{cast_signed, cast_unsigned, w32}
use Rattle.std.specs.Result.{OnOk}
use Rattle.icu_char16trie.specs.UnitNumberForms.{number_form, intermediate_form, delta_form}
use Rattle.icu_char16trie.specs.UnitPairs.{AreSorted, AreGroups, rests, spread, prefixed, room, Extends}
use Rattle.icu_char16trie.specs.UnitLayouts.{Lays, node, follows, within}
use Rattle.icu_char16trie.specs.UnitLayouts as layout
use Rattle.icu_char16trie.specs.UnitWritingTasks.{Adds, Finishes, IsNodeLaid, AreGroupsLaid, head_task, headed, weight}
use Rattle.icu_char16trie.specs.declared.writer.task.Task.{Task}
use Rattle.icu_char16trie.specs.declared.writer.task.Task.TheVariants as task
use Rattle.icu_char16trie.proofs.Pairs.SortedPairLemmas.{rests_length, extends_more}
use Rattle.icu_char16trie.proofs.Writing.LayoutLemmas.{final_lays, run_lays, few_lays, many_lays, first_group, last_lays, value_lays, jump_lays, Halves, halves_lays, delta_length, number_length}

pub intermediate_length : (kind number : ℕ) → length (intermediate_form kind number) ≤ 3
intermediate_length kind number = grind arith

extends_long : (old new : List ℕ) → Extends old new → length old ≤ length new
extends_long old new h = let l = ap length h.1 ∙ length-append h.0 old in omega (arith, l)

-- the only or last of the groups

pub last_adds : (unit depth : ℕ) (pairs : Bor (List (Bor (List ℕ) × ℤ))) (old put new : List Task) (all : List (ℕ × List (List ℕ × ℤ)))
    → put ≡ task.Unit unit ∷ old → new ≡ task.Node pairs (depth + 1) ∷ put
    → all ≡ (unit, rests (depth + 1) pairs.now) ∷ [] → AreGroups 0 0x10000 all → depth + room (spread all) < 2 ^ 32
    → Adds old new (AreGroupsLaid all) (room (spread all))
last_adds unit depth pairs old put new all p q e groups deep = λ goal marks units fits further.
    let first = first_group unit (rests (depth + 1) pairs.now) [] all e groups in
    let sum = first.sum in
    let some = first.some in
    subst (λ new. Finishes goal new marks units) (sym (q ∙ ap (λ put. task.Node pairs (depth + 1) ∷ put) p)) (
      record { some = some; sorted = first.sorted; fits = omega (arith, fits, sum); deep = omega (arith, deep, sum, some) },
      λ after h.
          let size = h.size in
          further (unit ∷ after) (record {
            lays = last_lays unit after (unit ∷ after) (rests (depth + 1) pairs.now) all refl h.lays e;
            extends = extends_more units after (unit ∷ after) h.extends (unit ∷ [], refl);
            size = omega (arith, size, sum, some);
          }),
    )

pub value_adds : (unit number : ℕ) (value : ℤ) (pairs : List (List ℕ × ℤ)) (old put put-2 new : List Task) (groups all : List (ℕ × List (List ℕ × ℤ)))
    → put ≡ task.Unit unit ∷ old → put-2 ≡ task.Final number ∷ put → Adds put-2 new (AreGroupsLaid groups) (room (spread groups))
    → cast_signed w32 number ≡ value → pairs ≡ ([], value) ∷ [] → 0 < length groups → length groups < 5 → all ≡ (unit, pairs) ∷ groups → AreGroups 0 0x10000 all
    → Adds old new (AreGroupsLaid all) (room (spread all))
value_adds unit number value pairs old put put-2 new groups all p q adds is alone some few e g = λ goal marks units fits further.
    let first = first_group unit pairs groups all e g in
    let sum = first.sum in
    let one = first.some in
    adds goal marks units (omega (arith, fits, sum)) (λ after h.
    let form = number_length 0x8000 number in
    let more = length-append (number_form 0x8000 number) after in
    let size = h.size in
    subst (λ tasks. Finishes goal tasks marks after) (sym (q ∙ ap (λ put. task.Final number ∷ put) p))
    (further (unit ∷ (number_form 0x8000 number ++ after)) (record {
      lays = value_lays unit number value after (number_form 0x8000 number ++ after) (unit ∷ (number_form 0x8000 number ++ after)) pairs groups all refl refl is alone h.lays some few e;
      extends = extends_more units after (unit ∷ (number_form 0x8000 number ++ after)) h.extends (unit ∷ number_form 0x8000 number, refl);
      size = omega (arith, size, sum, one, form, more);
    })))

pub jump_adds : (unit depth : ℕ) (pairs : Bor (List (Bor (List ℕ) × ℤ))) (old put put-2 entries put-3 new : List Task) (groups all : List (ℕ × List (List ℕ × ℤ)))
    → put ≡ task.Unit unit ∷ old → put-2 ≡ task.Jump ∷ put → Adds put-2 entries (AreGroupsLaid groups) (room (spread groups))
    → put-3 ≡ task.Mark ∷ entries → new ≡ task.Node pairs (depth + 1) ∷ put-3
    → 0 < length groups → length groups < 5 → all ≡ (unit, rests (depth + 1) pairs.now) ∷ groups → AreGroups 0 0x10000 all → depth + room (spread all) < 2 ^ 32
    → Adds old new (AreGroupsLaid all) (room (spread all))
jump_adds unit depth pairs old put put-2 entries put-3 new groups all p q adds r s some few e g deep = λ goal marks units fits further.
    let first = first_group unit (rests (depth + 1) pairs.now) groups all e g in
    let sum = first.sum in
    let one = first.some in
    subst (λ new. Finishes goal new marks units) (sym (s ∙ ap (λ put. task.Node pairs (depth + 1) ∷ put) r)) (
      record { some = one; sorted = first.sorted; fits = omega (arith, fits, sum); deep = omega (arith, deep, sum, one) },
      λ child below.
          let lower = below.size in
          adds goal (length child ∷ marks) child (omega (arith, fits, sum, lower)) (λ after h.
          let size = h.size in
          let form = number_length 0 (length after - length child) in
          let more = length-append (number_form 0 (length after - length child)) after in
          let whole : List ℕ = unit ∷ (number_form 0 (length after - length child) ++ after) in
          subst (λ tasks. Finishes goal tasks (length child ∷ marks) after) (sym (q ∙ ap (λ put. task.Jump ∷ put) p)) (
            (extends_long child after h.extends, omega (arith, fits, sum, lower, size)),
            further whole (record {
              lays = jump_lays unit child after (number_form 0 (length after - length child) ++ after) whole (rests (depth + 1) pairs.now) groups all refl refl h.extends below.lays h.lays some few e;
              extends = extends_more units after whole (extends_more units child after below.extends h.extends) (unit ∷ number_form 0 (length after - length child), refl);
              size = omega (arith, size, lower, sum, one, form, more);
            }),
          )),
    )

pub halves_adds : (unit : ℕ) (old put put-2 upper put-3 new : List Task) (lowers uppers all : List (ℕ × List (List ℕ × ℤ)))
    → put ≡ task.Unit unit ∷ old → put-2 ≡ task.Delta ∷ put → Adds put-2 upper (AreGroupsLaid uppers) (room (spread uppers))
    → put-3 ≡ task.Mark ∷ upper → Adds put-3 new (AreGroupsLaid lowers) (room (spread lowers))
    → 5 < length lowers + length uppers → length lowers ≡ (length lowers + length uppers) / 2 → all ≡ lowers ++ uppers → Halves unit lowers uppers all
    → Adds old new (AreGroupsLaid all) (room (spread all))
halves_adds unit old put put-2 upper put-3 new lowers uppers all p q adds r begins many count e halves = λ goal marks units fits further.
    let sum = halves.sum in
    begins goal marks units (omega (arith, fits, sum)) (λ child below.
    let lower = below.size in
    subst (λ tasks. Finishes goal tasks marks child) (sym r)
    (adds goal (length child ∷ marks) child (omega (arith, fits, sum, lower)) (λ after h.
    let size = h.size in
    let form = delta_length (length after - length child) in
    let more = length-append (delta_form (length after - length child)) after in
    let whole : List ℕ = unit ∷ (delta_form (length after - length child) ++ after) in
    subst (λ tasks. Finishes goal tasks (length child ∷ marks) after) (sym (q ∙ ap (λ put. task.Delta ∷ put) p)) (
      (extends_long child after h.extends, omega (arith, fits, sum, lower, size)),
      further whole (record {
        lays = halves_lays unit child after (delta_form (length after - length child) ++ after) whole lowers uppers all refl refl h.extends below.lays h.lays many count e halves;
        extends = extends_more units after whole (extends_more units child after below.extends h.extends) (unit ∷ delta_form (length after - length child), refl);
        size = omega (arith, size, lower, sum, form, more);
      }),
    ))))

-- a value as a number
pub same_number : (value : ℤ) (number : ℕ) → number ≡ cast_unsigned w32 (cast_signed w32 (cast_unsigned w32 value)) → cast_signed w32 (cast_unsigned w32 value) ≡ value → cast_signed w32 number ≡ value
same_number value number e is = ap (λ n. cast_signed w32 n) e ∙ ap (λ z. cast_signed w32 (cast_unsigned w32 z)) is ∙ is

-- nodes

pub headed_room : (value : Option ℕ) (pairs : List (List ℕ × ℤ)) → room pairs ≤ room (headed value pairs)
headed_room None pairs = omega arith
headed_room (Some number) pairs = omega arith

head_finishes : (goal : List (List ℕ × ℤ)) (kind : ℕ) (value : Option ℕ) (old : List Task) (marks units mid : List ℕ) (pairs : List (List ℕ × ℤ))
    → kind < 0x40 → Lays mid (follows kind pairs) → Extends units mid → length mid + 3 ≤ length units + room pairs
    → ((after : List ℕ) → IsNodeLaid (headed value pairs) units after → Finishes goal old marks after) → Finishes goal (head_task kind value ∷ old) marks mid
head_finishes goal kind None old marks units mid pairs low h extends size further =
    further (kind ∷ mid) (record { lays = layout.bare kind mid pairs low h; extends = extends_more units mid (kind ∷ mid) extends (kind ∷ [], refl); size = omega (arith, size) })
head_finishes goal kind (Some number) old marks units mid pairs low h extends size further =
    let form = intermediate_length kind number in
    let more = length-append (intermediate_form kind number) mid in (
      low,
      further (intermediate_form kind number ++ mid) (record {
        lays = layout.valued kind number mid pairs low h;
        extends = extends_more units mid (intermediate_form kind number ++ mid) extends (intermediate_form kind number, refl);
        size = omega (arith, size, form, more);
      }),
    )

pub run_adds : (n depth : ℕ) (value : Option ℕ) (pairs : Bor (List (Bor (List ℕ) × ℤ))) (run : Bor (List ℕ)) (units : List ℕ) (old put put-2 new : List Task)
    → put ≡ head_task (0x2f + n) value ∷ old → put-2 ≡ task.Run run ∷ put → new ≡ task.Node pairs (depth + n) ∷ put-2
    → length units ≡ n → 0 < n → n ≤ 16 → rests depth pairs.now ≡ prefixed units (rests (depth + n) pairs.now) → run.now ≡ units
    → 0 < length pairs.now → AreSorted (rests (depth + n) pairs.now)
    → 10 * n + room (rests (depth + n) pairs.now) ≤ room (rests depth pairs.now) → depth + room (rests depth pairs.now) < 2 ^ 32
    → Adds old new (IsNodeLaid (headed value (rests depth pairs.now))) (room (headed value (rests depth pairs.now)))
run_adds n depth value pairs run units-2 old put put-2 new p q r long some short along is any sorted fall deep = λ goal marks units fits further.
    let more = headed_room value (rests depth pairs.now) in
    let count = rests_length (depth + n) pairs.now in
    subst (λ new. Finishes goal new marks units) (sym (r ∙ ap (λ put. task.Node pairs (depth + n) ∷ put) (q ∙ ap (λ put. task.Run run ∷ put) p))) (
      record { some = omega (arith, any, count); sorted = sorted; fits = omega (arith, fits, fall, more); deep = omega (arith, deep, fall) },
      λ after h.
          let size = h.size in
          let l = length-append run.now after in
          let same = ap length is in
          head_finishes goal (0x2f + n) value old marks units (run.now ++ after) (rests depth pairs.now) (omega (arith, short))
          (run_lays n units-2 after (run.now ++ after) (rests (depth + n) pairs.now) (rests depth pairs.now) long some short along h.lays (ap (λ run. run ++ after) is))
          (extends_more units after (run.now ++ after) h.extends (run.now, refl))
          (omega (arith, size, l, same, long, fall, some)) further,
    )

pub few_adds : (kind : ℕ) (value : Option ℕ) (old put new : List Task) (groups : List (ℕ × List (List ℕ × ℤ))) (all : List (List ℕ × ℤ))
    → put ≡ head_task kind value ∷ old → Adds put new (AreGroupsLaid groups) (room (spread groups))
    → 0 < kind → kind < 0x30 → length groups ≡ kind + 1 → AreGroups 0 0x10000 groups → spread groups ≡ all
    → Adds old new (IsNodeLaid (headed value all)) (room (headed value all))
few_adds kind value old put new groups all p adds some few l g e = λ goal marks units fits further.
    let more = headed_room value all in
    let same = ap room e in
    adds goal marks units (omega (arith, fits, more, same)) (λ after h.
    let size = h.size in
    subst (λ tasks. Finishes goal tasks marks after) (sym p)
    (head_finishes goal kind value old marks units after all (omega (arith, few)) (few_lays kind after groups all some few l (h.lays 0 0x10000 g) e) h.extends
    (omega (arith, size, same)) further))

pub many_adds : (most : ℕ) (value : Option ℕ) (old put put-2 new : List Task) (groups : List (ℕ × List (List ℕ × ℤ))) (all : List (List ℕ × ℤ))
    → put ≡ head_task 0 value ∷ old → put-2 ≡ task.Unit most ∷ put → Adds put-2 new (AreGroupsLaid groups) (room (spread groups))
    → length groups ≡ most + 1 → AreGroups 0 0x10000 groups → spread groups ≡ all
    → Adds old new (IsNodeLaid (headed value all)) (room (headed value all))
many_adds most value old put put-2 new groups all p q adds l g e = λ goal marks units fits further.
    let more = headed_room value all in
    let same = ap room e in
    adds goal marks units (omega (arith, fits, more, same)) (λ after h.
    let size = h.size in
    subst (λ tasks. Finishes goal tasks marks after) (sym (q ∙ ap (λ put. task.Unit most ∷ put) p))
    (head_finishes goal 0 value old marks units (most ∷ after) all (omega arith) (many_lays most after (most ∷ after) groups all refl l (h.lays 0 0x10000 g) e)
    (extends_more units after (most ∷ after) h.extends (most ∷ [], refl)) (omega (arith, size, same)) further))

pub final_adds : (number : ℕ) (value : ℤ) (old new : List Task) (pairs : List (List ℕ × ℤ)) → new ≡ task.Final number ∷ old → cast_signed w32 number ≡ value
    → pairs ≡ ([], value) ∷ [] → Adds old new (IsNodeLaid pairs) (room pairs)
final_adds number value old new pairs p is e = λ goal marks units fits further.
    let form = number_length 0x8000 number in
    let more = length-append (number_form 0x8000 number) units in
    let same = ap room e in
    subst (λ tasks. Finishes goal tasks marks units) (sym p)
    (further (number_form 0x8000 number ++ units) (record {
      lays = final_lays number value units (number_form 0x8000 number ++ units) pairs refl is e;
      extends = (number_form 0x8000 number, refl);
      size = omega (arith, form, more, same);
    }))

pub head_weight : (kind : ℕ) (value : Option ℕ) (tasks : List Task) → weight (head_task kind value ∷ tasks) ≡ 1 + weight tasks
head_weight kind None tasks = refl
head_weight kind (Some number) tasks = refl

pub node_finishes : {T E : Type 0} (r : Result T E) (first : Task) (pairs : Bor (List (Bor (List ℕ) × ℤ))) (depth : ℕ) (old new : List Task) (marks units : List ℕ) → first ≡ task.Node pairs depth
    → OnOk r (Adds old new (IsNodeLaid (rests depth pairs.now)) (room (rests depth pairs.now)))
    → OnOk r ((goal : List (List ℕ × ℤ)) → Finishes goal (first ∷ old) marks units → Finishes goal new marks units)
node_finishes (Ok x) first pairs depth old new marks units e adds = λ goal h.
    let h : Finishes goal (task.Node pairs depth ∷ old) marks units = subst (λ first. Finishes goal (first ∷ old) marks units) e h in
    adds goal marks units h.0.fits h.1
node_finishes (Err x) first pairs depth old new marks units e adds = tt
