-- Jobs of a fold: what they come to, and that they end.
use Rattle.std.proofs.Common.{◌≡◌, ℕ, ℤ, ◌+◌, ◌-◌, ◌^◌, ◌<◌, ◌≤◌, ◌⊎◌, ◌↔◌, ◌++◌, Bool, true, false, List, [], ◌∷◌, length, take, drop, Option, Some, None, Result, Ok, Err, refl, ap, ◌∙◌, sym, subst, arith, inl, inr, ⊎_elim}
use Rattle.std.specs.Prelude.{fold}
use Rattle.std.specs.Int.{cast_signed, w32}
use Rattle.std.specs.List.{Contains}
use Rattle.std.specs.Option.{IfSome}
use Rattle.std.proofs.lemmas.List.{take-append-drop}
use Rattle.std.proofs.lemmas.List.Elements.{Contains-append_left, Contains-append_right, Contains-append_cases, Contains-push, Contains-push_cases}
use Rattle.icu_char16trie.specs.UnitPartSteps.{part_step, part_index}
use Rattle.icu_char16trie.specs.UnitReadingOrder.{extended}
use Rattle.icu_char16trie.specs.KeyFolds.{IsReadable, readable, Spells, spelled_here, spelled_next, spelled_rest, folded_on, IsNoted, IsBehind, Finds, IsFolding, IsTakenUp, HasEnded, weight, part_weight, GrowsBy}
use Rattle.icu_char16trie.specs.declared.reader.folds.Job.{Job}
use Rattle.icu_char16trie.specs.declared.reader.part.Part.{Part}
use Rattle.icu_char16trie.specs.declared.reader.part.Step.{Step}
use Rattle.icu_char16trie.proofs.Cursors.BranchLemmas.{some-same}
use Rattle.icu_char16trie.proofs.Reading.PartStepLemmas.{stands}
use Rattle.icu_char16trie.proofs.Reading.ProgressLemmas.{ahead, third, positive}

pub contains_none : {X : Type 0} (x : X) → Contains [] x → ⊥
contains_none x h = let less : h.0 < 0 = h.1 in omega (arith, less)

one-step : (r : Result Step ℕ) (step other : Step) → r ≡ Ok step → r ≡ Ok other → step ≡ other
one-step r step other e f = cc

step-or-index : (r : Result Step ℕ) (step : Step) (index : ℕ) → r ≡ Ok step → r ≡ Err index → ⊥
step-or-index r step index e f = cc

-- a part that can be read comes to such parts
readable_step : (units : List ℕ) {p : Part} (step : Step) → part_step units p ≡ Ok step → IsReadable units p
    → ((next : Part) → step.next ≡ Some next → IsReadable units next) × ((rest : Part) → step.rest ≡ Some rest → IsReadable units rest)
readable_step units step e (readable p other f next rest) =
    let same : other ≡ step = one-step (part_step units p) other step f e in
    subst (λ (step : Step). ((q : Part) → step.next ≡ Some q → IsReadable units q) × ((q : Part) → step.rest ≡ Some q → IsReadable units q)) same (next, rest)

stuck_unreadable : (units : List ℕ) {p : Part} (index : ℕ) → part_step units p ≡ Err index → IsReadable units p → ⊥
stuck_unreadable units index e (readable p step f next rest) = step-or-index (part_step units p) step index f e

-- ## How much is left

weight-append : {A : Type 0} (size : ℕ) (xs ys : List (Job A)) → weight size (xs ++ ys) ≡ weight size xs + weight size ys
unfolding weight
weight-append size [] ys = omega arith
weight-append size (x ∷ xs) ys = let e = weight-append size xs ys in omega (arith, e)

weight-one : {A : Type 0} (size : ℕ) (job : Job A) → weight size (job ∷ []) ≡ 3 ^ (size - part_index job.part)
unfolding weight
weight-one size job = omega arith

weight-more : {A : Type 0} (size : ℕ) (job : Job A) (xs : List (Job A)) → weight size (job ∷ xs) ≡ 3 ^ (size - part_index job.part) + weight size xs
unfolding weight
weight-more size job xs = refl

pub weight_inserted : {A : Type 0} (size index : ℕ) (job : Job A) (xs : List (Job A))
    → weight size (take index xs ++ job ∷ drop index xs) ≡ weight size xs + 3 ^ (size - part_index job.part)
weight_inserted size index job xs =
    let e = weight-append size (take index xs) (job ∷ drop index xs) in
    let f = weight-more size job (drop index xs) in
    let g = weight-append size (take index xs) (drop index xs) in
    let h : weight size (take index xs ++ drop index xs) ≡ weight size xs = ap (λ ys. weight size ys) (take-append-drop index xs) in
    omega (arith, e, f, g, h)

weight-pushed : {A : Type 0} (size : ℕ) (job : Job A) (xs : List (Job A)) → weight size (xs ++ job ∷ []) ≡ weight size xs + 3 ^ (size - part_index job.part)
weight-pushed size job xs = let e = weight-append size xs (job ∷ []) in let f = weight-one size job in omega (arith, e, f)

parts-less : (size index : ℕ) (next rest : Option Part) → index < size → IfSome next (λ q. index < part_index q) → IfSome rest (λ q. index < part_index q)
    → part_weight size next + part_weight size rest < 3 ^ (size - index)
parts-less size index None None within h k = let p = positive (size - index) in omega (arith, p)
parts-less size index (Some next) None within h k =
    let p = third size index (part_index next) within h in let q = positive (size - part_index next) in omega (arith, p, q)
parts-less size index None (Some rest) within h k =
    let p = third size index (part_index rest) within k in let q = positive (size - part_index rest) in omega (arith, p, q)
parts-less size index (Some next) (Some rest) within h k =
    let p = third size index (part_index next) within h in let q = third size index (part_index rest) within k in
    let r = positive (size - part_index next) in let s = positive (size - part_index rest) in
    omega (arith, p, q, r, s)

-- ## One job more

abbrev job_of : {A : Type 0} → A → Part → Job A
job_of folded part = record { part = part; folded = folded }

pub put_new : {A : Type 0} (jobs : List (Job A)) (index : ℕ) (job : Job A) → GrowsBy (λ (one : Job A). one ≡ job) jobs (take index jobs ++ job ∷ drop index jobs)
put_new jobs index job one =
    let whole : take index jobs ++ drop index jobs ≡ jobs = take-append-drop index jobs in (
      (λ h. ⊎_elim
          (λ (front : Contains (take index jobs) one). inl (subst (λ jobs. Contains jobs one) whole (Contains-append_left (take index jobs) (drop index jobs) one front)))
          (λ (back : Contains (job ∷ drop index jobs) one). ⊎_elim
          (λ (first : Contains (job ∷ []) one). ⊎_elim (λ (none : Contains [] one). absurd (contains_none one none))
          (λ (same : job ≡ one). inr (sym same)) (Contains-push_cases [] job one first))
          (λ (behind : Contains (drop index jobs) one). inl (subst (λ jobs. Contains jobs one) whole (Contains-append_right (take index jobs) (drop index jobs) one behind)))
          (Contains-append_cases (job ∷ []) (drop index jobs) one back))
          (Contains-append_cases (take index jobs) (job ∷ drop index jobs) one h)),
      (λ h. ⊎_elim
          (λ (old : Contains jobs one). ⊎_elim
          (λ (front : Contains (take index jobs) one). Contains-append_left (take index jobs) (job ∷ drop index jobs) one front)
          (λ (behind : Contains (drop index jobs) one). Contains-append_right (take index jobs) (job ∷ drop index jobs) one (Contains-append_right (job ∷ []) (drop index jobs) one behind))
          (Contains-append_cases (take index jobs) (drop index jobs) one (subst (λ jobs. Contains jobs one) (sym whole) old)))
          (λ (new : one ≡ job). Contains-append_right (take index jobs) (job ∷ drop index jobs) one
          (Contains-append_left (job ∷ []) (drop index jobs) one (subst (λ one. Contains (job ∷ []) one) (sym new) (Contains-push [] job)))) h),
    )

-- the job of a part, if there is one
abbrev pub IsOf : {A : Type 0} → A → Option Part → Job A → Type 0
IsOf folded part other = (one : Part) × (part ≡ Some one) × (other ≡ record { part = one; folded = folded })

pub put_some : {A : Type 0} (folded : A) (part : Option Part) (p : Part) (jobs after : List (Job A)) → part ≡ Some p
    → GrowsBy (λ (one : Job A). one ≡ record { part = p; folded = folded }) jobs after → GrowsBy (IsOf folded part) jobs after
put_some {A = A} folded part p jobs after e grown one = (
  (λ h. ⊎_elim (λ (old : Contains jobs one). inl old) (λ (new : one ≡ record { part = p; folded = folded }). inr (p, e, new)) ((grown one).0 h)),
  (λ h. (grown one).1 (⊎_elim (λ (old : Contains jobs one). inl old)
      (λ (new : IsOf folded part one). inr (new.2 ∙ ap (λ part. job_of {A = A} folded part) (some-same new.0 p (sym new.1 ∙ e)))) h)),
)

-- ## What jobs come to

-- what a key of a part is
abbrev pub Ways : List ℕ → Step → List ℕ → ℤ → Type 0
Ways units step key number =
    ((value : ℕ) × (step.value ≡ Some value) × (key ≡ extended [] step.unit) × (number ≡ cast_signed w32 value))
    ⊎ (((next : Part) × (step.next ≡ Some next) × (behind : List ℕ) × Spells units next behind number × (key ≡ extended [] step.unit ++ behind))
    ⊎ ((rest : Part) × (step.rest ≡ Some rest) × Spells units rest key number))

pub ways : (units : List ℕ) {p : Part} {key : List ℕ} {number : ℤ} (step : Step) → part_step units p ≡ Ok step → Spells units p key number
    → Ways units step key number
ways units step e (spelled_here p other value f v) =
    subst (λ (step : Step). Ways units step (extended [] other.unit) (cast_signed w32 value)) (one-step (part_step units p) other step f e)
    (inl (value, v, refl, refl))
ways units step e (spelled_next p other next key number f n h) =
    subst (λ (step : Step). Ways units step (extended [] other.unit ++ key) number) (one-step (part_step units p) other step f e)
    (inr (inl (next, n, key, h, refl)))
ways units step e (spelled_rest p other rest key number f r h) =
    subst (λ (step : Step). Ways units step key number) (one-step (part_step units p) other step f e)
    (inr (inr (rest, r, h)))

module _ {A : Type 0} (onward : A → ℕ → A) (units : List ℕ) where
  fold-on : (a : A) (unit : Option ℕ) (key : List ℕ) → fold onward a (extended [] unit ++ key) ≡ fold onward (folded_on onward a unit) key
  fold-on a None key = refl
  fold-on a (Some unit) key = refl

  fold-here : (a : A) (unit : Option ℕ) → fold onward a (extended [] unit) ≡ folded_on onward a unit
  fold-here a None = refl
  fold-here a (Some unit) = refl

  abbrev result_of : A → ℤ → A × ℤ
  result_of a number = (a, number)

  result-is : (a b : A) (number : ℤ) (result : A × ℤ) → b ≡ a → b ≡ result.0 → result.1 ≡ number → result ≡ result_of a number
  result-is a b number result e f g = ap (λ x. result_of x result.1) (sym f ∙ e) ∙ ap (λ y. result_of a y) g

  finds_step : (job : Job A) (step : Step) (result : A × ℤ) → part_step units job.part ≡ Ok step → Finds onward units job result
      → IsNoted onward job step result ⊎ ((other : Job A) × IsBehind onward job step other × Finds onward units other result)
  finds_step job step result e h =
      let longer : A = folded_on onward job.folded step.unit in
      ⊎_elim
      (λ (here : (value : ℕ) × (step.value ≡ Some value) × (h.0 ≡ extended [] step.unit) × (result.1 ≡ cast_signed w32 value)).
      inl (
        here.0,
        here.1,
        result-is longer (fold onward job.folded h.0) (cast_signed w32 here.0) result
            (ap (λ key. fold onward job.folded key) here.2 ∙ fold-here job.folded step.unit) h.2 here.3,
      ))
      (λ (more : ((next : Part) × (step.next ≡ Some next) × (behind : List ℕ) × Spells units next behind result.1 × (h.0 ≡ extended [] step.unit ++ behind))
      ⊎ ((rest : Part) × (step.rest ≡ Some rest) × Spells units rest h.0 result.1)).
      ⊎_elim
      (λ (on : (next : Part) × (step.next ≡ Some next) × (behind : List ℕ) × Spells units next behind result.1 × (h.0 ≡ extended [] step.unit ++ behind)).
      inr (
        record { part = on.0; folded = longer },
        inl (on.0, on.1, refl),
        (on.2, on.3, sym (fold-on job.folded step.unit on.2) ∙ ap (λ key. fold onward job.folded key) (sym on.4) ∙ h.2),
      ))
      (λ (beside : (rest : Part) × (step.rest ≡ Some rest) × Spells units rest h.0 result.1).
      inr (record { part = beside.0; folded = job.folded }, inr (beside.0, beside.1, refl), (h.0, beside.2, h.2))) more)
      (ways units step e h.1)

  noted_finds : (job : Job A) (step : Step) (result : A × ℤ) → part_step units job.part ≡ Ok step → IsNoted onward job step result → Finds onward units job result
  noted_finds job step result e h =
      subst (λ (result : A × ℤ). Finds onward units job result) (sym h.2)
      (extended [] step.unit, spelled_here job.part step h.0 e h.1, fold-here job.folded step.unit)

  behind_finds : (job : Job A) (step : Step) (other : Job A) (result : A × ℤ) → part_step units job.part ≡ Ok step → IsBehind onward job step other
      → Finds onward units other result → Finds onward units job result
  behind_finds job step other result e b h =
      ⊎_elim
      (λ (next : (q : Part) × (step.next ≡ Some q) × (other ≡ record { part = q; folded = folded_on onward job.folded step.unit })).
      let k : Finds onward units (record { part = next.0; folded = folded_on onward job.folded step.unit }) result = subst (λ (other : Job A). Finds onward units other result) next.2 h in
      (extended [] step.unit ++ k.0, spelled_next job.part step next.0 k.0 result.1 e next.1 k.1, fold-on job.folded step.unit k.0 ∙ k.2))
      (λ (rest : (q : Part) × (step.rest ≡ Some q) × (other ≡ record { part = q; folded = job.folded })).
      let k : Finds onward units (record { part = rest.0; folded = job.folded }) result = subst (λ (other : Job A). Finds onward units other result) rest.2 h in
      (k.0, spelled_rest job.part step rest.0 k.0 result.1 e rest.1 k.1, k.2)) b

  -- ## All jobs

  pub folding_first : (first : Job A) (left : List (Job A)) (results : List (A × ℤ)) → GrowsBy (λ (job : Job A). job ≡ first) [] left → results ≡ []
      → IsFolding onward units first left results
  folding_first first left results grown none =
      record {
        readable = (
          (λ all. all first ((grown first).1 (inr refl))),
          (λ h job in-left. ⊎_elim (λ (old : Contains [] job). absurd (contains_none job old))
              (λ (same : job ≡ first). subst (λ (job : Job A). IsReadable units job.part) (sym same) h) ((grown job).0 in-left)),
        );
        found = λ result. (
          (λ h. inr (first, (grown first).1 (inr refl), h)),
          (λ h. ⊎_elim
              (λ (old : Contains results result). absurd (contains_none result (subst (λ results. Contains results result) none old)))
              (λ (some : (job : Job A) × Contains left job × Finds onward units job result).
              ⊎_elim (λ (old : Contains [] some.0). absurd (contains_none some.0 old))
              (λ (same : some.0 ≡ first). subst (λ (job : Job A). Finds onward units job result) same some.2) ((grown some.0).0 some.1)) h),
        );
      }

  module _ (job : Job A) (step : Step) (left before after : List (Job A)) (read now : List (A × ℤ)) (popped : left ≡ before ++ job ∷ [])
      (taken : IsTakenUp onward units job step before after read now) where
    job-left : Contains left job
    job-left = subst (λ left. Contains left job) (sym popped) (Contains-push before job)

    others-left : (other : Job A) → Contains before other → Contains left other
    others-left other h = subst (λ left. Contains left other) (sym popped) (Contains-append_left before (job ∷ []) other h)

    left-cases : (other : Job A) → Contains left other → Contains before other ⊎ (job ≡ other)
    left-cases other h = Contains-push_cases before job other (subst (λ left. Contains left other) popped h)

    next-in : (q : Part) → step.next ≡ Some q → Contains after (record { part = q; folded = folded_on onward job.folded step.unit })
    next-in q e = (taken.jobs (record { part = q; folded = folded_on onward job.folded step.unit })).1 (inr (inl (q, e, refl)))

    rest-in : (q : Part) → step.rest ≡ Some q → Contains after (record { part = q; folded = job.folded })
    rest-in q e = (taken.jobs (record { part = q; folded = job.folded })).1 (inr (inr (q, e, refl)))

    readable-back : ((other : Job A) → Contains after other → IsReadable units other.part) → (other : Job A) → Contains left other → IsReadable units other.part
    readable-back all other h =
        ⊎_elim (λ (old : Contains before other). all other ((taken.jobs other).1 (inl old)))
        (λ (same : job ≡ other). subst (λ (job : Job A). IsReadable units job.part) same
        (readable job.part step taken.stands
        (λ q e. all (record { part = q; folded = folded_on onward job.folded step.unit }) (next-in q e))
        (λ q e. all (record { part = q; folded = job.folded }) (rest-in q e))))
        (left-cases other h)

    readable-on : ((other : Job A) → Contains left other → IsReadable units other.part) → (other : Job A) → Contains after other → IsReadable units other.part
    readable-on all other h =
        let steps = readable_step units step taken.stands (all job job-left) in
        ⊎_elim (λ (old : Contains before other). all other (others-left other old))
        (λ (new : IsBehind onward job step other).
        ⊎_elim
        (λ (next : (q : Part) × (step.next ≡ Some q) × (other ≡ record { part = q; folded = folded_on onward job.folded step.unit })).
        subst (λ (other : Job A). IsReadable units other.part) (sym next.2) (steps.0 next.0 next.1))
        (λ (rest : (q : Part) × (step.rest ≡ Some q) × (other ≡ record { part = q; folded = job.folded })).
        subst (λ (other : Job A). IsReadable units other.part) (sym rest.2) (steps.1 rest.0 rest.1)) new)
        ((taken.jobs other).0 h)

    -- what is left or read before, and after
    abbrev WasFound : A × ℤ → Type 0
    WasFound result = Contains read result ⊎ ((other : Job A) × Contains left other × Finds onward units other result)

    abbrev IsFound : A × ℤ → Type 0
    IsFound result = Contains now result ⊎ ((other : Job A) × Contains after other × Finds onward units other result)

    found-on : (result : A × ℤ) → WasFound result → IsFound result
    found-on result h =
        ⊎_elim
        (λ (old : Contains read result). inl ((taken.results result).1 (inl old)))
        (λ (some : (other : Job A) × Contains left other × Finds onward units other result).
        ⊎_elim
        (λ (old : Contains before some.0). inr (some.0, (taken.jobs some.0).1 (inl old), some.2))
        (λ (same : job ≡ some.0).
        ⊎_elim
        (λ (noted : IsNoted onward job step result). inl ((taken.results result).1 (inr noted)))
        (λ (on : (other : Job A) × IsBehind onward job step other × Finds onward units other result).
        inr (on.0, (taken.jobs on.0).1 (inr on.1), on.2))
        (finds_step job step result taken.stands (subst (λ (other : Job A). Finds onward units other result) (sym same) some.2)))
        (left-cases some.0 some.1)) h

    found-back : (result : A × ℤ) → IsFound result → WasFound result
    found-back result h =
        ⊎_elim
        (λ (in-now : Contains now result).
        ⊎_elim
        (λ (old : Contains read result). inl old)
        (λ (noted : IsNoted onward job step result). inr (job, job-left, noted_finds job step result taken.stands noted))
        ((taken.results result).0 in-now))
        (λ (some : (other : Job A) × Contains after other × Finds onward units other result).
        ⊎_elim
        (λ (old : Contains before some.0). inr (some.0, others-left some.0 old, some.2))
        (λ (new : IsBehind onward job step some.0). inr (job, job-left, behind_finds job step some.0 result taken.stands new some.2))
        ((taken.jobs some.0).0 some.1)) h

    pub folding_more : (first : Job A) → IsFolding onward units first left read → IsFolding onward units first after now
    folding_more first way = record {
      readable = (
        (λ all. way.readable.0 (readable-back all)),
        (λ h. readable-on (way.readable.1 h)),
      );
      found = λ result. (
        (λ h. found-on result ((way.found result).0 h)),
        (λ h. (way.found result).1 (found-back result h)),
      );
    }

    pub weight_falls : weight (length units) after < weight (length units) left
    weight_falls =
        let a = ahead units (stands units job.part step taken.stands) in
        let less = parts-less (length units) (part_index job.part) step.next step.rest a.within a.next a.rest in
        let all = taken.less (length units) in
        let e = weight-pushed (length units) job before in
        let f : weight (length units) left ≡ weight (length units) (before ++ job ∷ []) = ap (λ jobs. weight (length units) jobs) popped in
        omega (arith, less, all, e, f)

  -- one result more, and two jobs
  abbrev pub IsNotedAs : A → Option ℕ → A × ℤ → Type 0
  IsNotedAs folded value result = (number : ℕ) × (value ≡ Some number) × (result ≡ (folded, cast_signed w32 number))

  pub taken_up : (job : Job A) (step : Step) (longer : A) (before between after : List (Job A)) (read now : List (A × ℤ)) → part_step units job.part ≡ Ok step
      → longer ≡ folded_on onward job.folded step.unit → GrowsBy (IsNotedAs longer step.value) read now
      → GrowsBy (IsOf longer step.next) before between → GrowsBy (IsOf job.folded step.rest) between after
      → ((size : ℕ) → weight size between ≤ weight size before + part_weight size step.next)
      → ((size : ℕ) → weight size after ≤ weight size between + part_weight size step.rest)
      → IsTakenUp onward units job step before after read now
  taken_up job step longer before between after read now e same noted next rest less fewer =
      let next-on : GrowsBy (IsOf (folded_on onward job.folded step.unit) step.next) before between =
      subst (λ longer. GrowsBy (IsOf longer step.next) before between) same next in
      record {
        stands = e;
        jobs = λ one. (
          (λ h. ⊎_elim
              (λ (old : Contains between one). ⊎_elim (λ (older : Contains before one). inl older) (λ (new : IsOf (folded_on onward job.folded step.unit) step.next one). inr (inl new)) ((next-on one).0 old))
              (λ (new : IsOf job.folded step.rest one). inr (inr new)) ((rest one).0 h)),
          (λ h. (rest one).1 (⊎_elim
              (λ (old : Contains before one). inl ((next-on one).1 (inl old)))
              (λ (new : IsBehind onward job step one). ⊎_elim
              (λ (of-next : IsOf (folded_on onward job.folded step.unit) step.next one). inl ((next-on one).1 (inr of-next)))
              (λ (of-rest : IsOf job.folded step.rest one). inr of-rest) new) h)),
        );
        results = subst (λ longer. GrowsBy (IsNotedAs longer step.value) read now) same noted;
        less = λ size. let l = less size in let f = fewer size in omega (arith, l, f);
      }

  pub folding_root : (first : Job A) (left : List (Job A)) (results : List (A × ℤ)) → GrowsBy (IsOf first.folded (Some first.part)) [] left → results ≡ []
      → IsFolding onward units first left results
  folding_root first left results grown none =
      folding_first first left results
      (λ one. (
        (λ h. ⊎_elim (λ (old : Contains [] one). inl old)
            (λ (new : IsOf first.folded (Some first.part) one). inr (new.2 ∙ ap (λ part. job_of first.folded part) (sym (some-same first.part new.0 new.1)))) ((grown one).0 h)),
        (λ h. (grown one).1 (⊎_elim (λ (old : Contains [] one). inl old) (λ (same : one ≡ first). inr (first.part, refl, same)) h)),
      )) none

  pub ended_stuck : (first job : Job A) (left before : List (Job A)) (read now : List (A × ℤ)) (index : ℕ) → left ≡ before ++ job ∷ []
      → part_step units job.part ≡ Err index → IsFolding onward units first left read → HasEnded onward units first now false
  ended_stuck first job left before read now index popped e way h =
      stuck_unreadable units index e (way.readable.1 h job (subst (λ left. Contains left job) (sym popped) (Contains-push before job)))

  pub no_job : (jobs rest : List (Job A)) (count : ℕ) → count ≡ 0 → jobs ≡ rest ++ [] → rest ≡ take (count - 1) jobs → jobs ≡ []
  no_job jobs rest count none popped kept = popped ∙ ap (λ rest. rest ++ []) (kept ∙ ap (λ count. take (count - 1) jobs) none)

  pub ended : (first : Job A) (left : List (Job A)) (read : List (A × ℤ)) → left ≡ [] → IsFolding onward units first left read
      → HasEnded onward units first read true
  ended first left read none way = (
    way.readable.0 (λ job h. absurd (contains_none job (subst (λ left. Contains left job) none h))),
    (λ result. (
      (λ h. ⊎_elim (λ (old : Contains read result). old)
          (λ (some : (job : Job A) × Contains left job × Finds onward units job result).
          absurd (contains_none some.0 (subst (λ left. Contains left some.0) none some.1))) ((way.found result).0 h)),
      (λ h. (way.found result).1 (inl h)),
    )),
  )
