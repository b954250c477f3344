-- What is left to be read after a part was taken up.
use Rattle.std.proofs.Common.{◌≡◌, ℕ, ℤ, ◌++◌, List, [], ◌∷◌, ◌-◌, take, map, reverse, Ok, refl, ap, ◌∙◌, sym, subst, append_assoc}
use Rattle.std.proofs.lemmas.List.{reverse-append, map-append, append-nil}
use Rattle.icu_char16trie.specs.UnitPartSteps.{part_step}
use Rattle.icu_char16trie.specs.UnitReadingOrder.{Job, extended, onward, noted, pairs_of, HasRoom, IsTaken, IsStuck, Reads, done, on, StopsIn, here, beyond, HasRead, job_of}
use Rattle.icu_char16trie.specs.declared.reader.part.Part.{Part}
use Rattle.icu_char16trie.specs.declared.reader.part.Step.{Step}
use Rattle.icu_char16trie.specs.declared.reader.queue.Task.{Task}

-- `aside` is left once the rest is kept, `along` once the value is noted
pub taken : (units : List ℕ) (limit : ℕ) (key longer : List ℕ) (part : Part) (step : Step) (before aside along after : List Job) (read aside-read along-read now : List (List ℕ × ℤ))
    → part_step units part ≡ Ok step → HasRoom limit key step.unit → longer ≡ extended key step.unit
    → aside ≡ onward key step.rest ++ before → aside-read ≡ read
    → along ≡ aside → along-read ≡ aside-read ++ noted longer step.value
    → after ≡ onward longer step.next ++ along → now ≡ along-read
    → IsTaken units limit key part before after read now
taken units limit key longer part step before aside along after read aside-read along-read now stands room grown kept same-read same noted-is put-is now-is = record {
  step = step;
  stands = stands;
  room = room;
  jobs = put-is ∙ ap (λ longer. onward longer step.next ++ along) grown ∙ ap (λ left. onward (extended key step.unit) step.next ++ left) (same ∙ kept)
      ∙ sym (append_assoc (onward (extended key step.unit) step.next) (onward key step.rest) before);
  pairs = now-is ∙ noted-is ∙ ap (λ longer. aside-read ++ noted longer step.value) grown ∙ ap (λ read. read ++ noted (extended key step.unit) step.value) same-read;
}

-- what was read and what is left, of what was to be read at first
pub record IsOnWay (units : List ℕ) (limit : ℕ) (first : List Job) (begun : List (List ℕ × ℤ)) (left : List Job) (now : List (List ℕ × ℤ)) : Type 0 where
  pub reads : (pairs : List (List ℕ × ℤ)) → Reads units limit left pairs → HasRead units limit first begun (now ++ pairs)
  pub stops : (index : ℕ) → StopsIn units limit left index → StopsIn units limit first index

pub on_way_first : (units : List ℕ) (limit : ℕ) (first : List Job) (begun : List (List ℕ × ℤ)) → IsOnWay units limit first begun first begun
on_way_first units limit first begun = record { reads = λ pairs h. (pairs, h, refl); stops = λ index h. h }

-- the pop of a part, and what its taking up left
module _ (units : List ℕ) (limit : ℕ) (first : List Job) (begun : List (List ℕ × ℤ)) (key : List ℕ) (part : Part) (left before after : List Job) (read now : List (List ℕ × ℤ))
    (popped : left ≡ (key, part) ∷ before) (way : IsOnWay units limit first begun left read) where
  pub on_way_more : IsTaken units limit key part before after read now → IsOnWay units limit first begun after now
  on_way_more h = record {
    reads = λ pairs rest.
        subst (λ now. HasRead units limit first begun (now ++ pairs)) (sym h.pairs)
        (subst (λ all. HasRead units limit first begun all) (sym (append_assoc read (pairs_of key h.step) pairs))
        (way.reads (pairs_of key h.step ++ pairs)
        (subst (λ left. Reads units limit left (pairs_of key h.step ++ pairs)) (sym popped)
        (on key part h.step before pairs h.stands h.room (subst (λ after. Reads units limit after pairs) h.jobs rest)))));
    stops = λ index rest.
        way.stops index (subst (λ left. StopsIn units limit left index) (sym popped)
        (beyond key part h.step before index h.stands h.room (subst (λ after. StopsIn units limit after index) h.jobs rest)));
  }

  pub on_way_stuck : (index : ℕ) → IsStuck units limit key part index → StopsIn units limit first index
  on_way_stuck index h = way.stops index (subst (λ left. StopsIn units limit left index) (sym popped) (here key part before index h))

-- nothing is left
pub on_way_end : (units : List ℕ) (limit : ℕ) (first : List Job) (begun : List (List ℕ × ℤ)) (left : List Job) (now : List (List ℕ × ℤ)) → left ≡ []
    → IsOnWay units limit first begun left now → HasRead units limit first begun now
on_way_end units limit first begun left now none way =
    subst (λ now. HasRead units limit first begun now) (append-nil now)
    (way.reads [] (subst (λ left. Reads units limit left []) (sym none) done))

-- the last task stands first
pub popped_first : (tasks : List Task) (rest : List Task) (task : Task) → tasks ≡ rest ++ task ∷ []
    → reverse (map job_of tasks) ≡ job_of task ∷ reverse (map job_of rest)
popped_first tasks rest task e =
    ap (λ tasks. reverse (map job_of tasks)) e
    ∙ ap reverse (map-append job_of rest (task ∷ []))
    ∙ reverse-append (map job_of rest) (job_of task ∷ [])

-- a pop that gave nothing
pub nothing_left : (tasks rest : List Task) (count : ℕ) → count ≡ 0 → tasks ≡ rest ++ [] → rest ≡ take (count - 1) tasks → reverse (map job_of tasks) ≡ []
nothing_left tasks rest count none popped kept =
    ap (λ tasks. reverse (map job_of tasks)) (popped ∙ ap (λ rest. rest ++ []) (kept ∙ ap (λ count. take (count - 1) tasks) none))
