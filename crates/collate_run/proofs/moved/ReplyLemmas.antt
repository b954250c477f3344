-- What replies to lines over one catalogue are replies over one whose records stand in another order.
use Rattle.std.proofs.Common.{◌≡◌, ℕ, List, [], ◌∷◌, ◌++◌, inl, inr, refl, sym, ap, subst, ◌∙◌, Result, Ok, Err}
use Rattle.std.specs.List.{Contains, filter, flat_map}
use Rattle.std.specs.List.Sorted.{IsPermutation}
use Rattle.std.specs.Prelude.{bytes_eq, not, Option}
use Rattle.std.proofs.lemmas.List.Sorted.{IsPermutation-refl}
use Rattle.collate_lines.specs.declared.limits.Limits.{Limits}
use Rattle.collate_lines.specs.declared.rule.RecordsError.TheVariants.{Fault}
use Rattle.collate_lines.specs.Lines.{lines_of, records_of}
use Rattle.collate_records.specs.Files.{IsAcceptedWithin, RefusesWithin}
use Rattle.collate_records.proofs.reading.ReadingAcceptedLemmas.{lines_within}
use Rattle.collate_records.proofs.reordering.AcceptedMovedLemmas.{records_moved}
use Rattle.icu_collator_types.specs.declared.options.CollatorOptions.{CollatorOptions}
use Rattle.icu_collator_types.specs.declared.options.CollatorPreferences.{CollatorPreferences}
use Rattle.hex.specs.Hex.{encode_lower}
use Rattle.collate_index.specs.Catalogue.{Catalogue, opened_by, reloaded}
use Rattle.collate_run.specs.Replies.{Answers, AreReplies, Grants, LineCommand, Replied, add, remove, find, between, key, list, reload, unknown, nothing, command, command_of, ended, listing}
use Rattle.collate_run.specs.Runs.{Does, Ran, input_limit, lines_read}
use Rattle.collate_run.specs.declared.run.RunFault.{RunFault}
use Rattle.collate_run.specs.declared.run.RunFault.TheVariants.{Memory, Read, Write, LineTooLong, InputTooLong, CutReload}
use Rattle.collate_run.proofs.moved.RunLawMovedLemmas.{AreMoved, between_same, equal_same, key_same, made_same, sorted_same}

-- a catalogue that the other catalogue comes to
abbrev Comes : (Catalogue → Type 0) → Catalogue → Type 0
Comes does new = (later : Catalogue) × does later × AreMoved new later

-- nothing has changed
stays : (old new other : Catalogue) (does : Catalogue → Type 0) → AreMoved old other → new ≡ old → does other → Comes does new
stays old new other does moved same is = (other, is, subst (λ (s : Catalogue). AreMoved s other) (sym same) moved)

-- the names have changed alike
changes : (old new other : Catalogue) (names : List (List ℕ) → List (List ℕ)) (does : Catalogue → Type 0) → AreMoved old other
    → new ≡ record old { arrivals = names old.arrivals } → does (record other { arrivals = names other.arrivals }) → Comes does new
changes old new other names does moved same is = (
  record other { arrivals = names other.arrivals },
  is,
  subst (λ (s : Catalogue). AreMoved s (record other { arrivals = names other.arrivals })) (sym same)
      (record { limits = moved.limits; accepted = moved.accepted; records = moved.records; asked = moved.asked; arrivals = ap names moved.arrivals }),
)

module _ (old other : Catalogue) (moved : AreMoved old other) (file : List ℕ) (new : Catalogue) (text : List ℕ) where
  has : (name : List ℕ) → Contains old.arrivals name → Contains other.arrivals name
  has name there = subst (λ (names : List (List ℕ)). Contains names name) moved.arrivals there

  lacks : (name : List ℕ) → (Contains old.arrivals name → ⊥) → Contains other.arrivals name → ⊥
  lacks name none there = none (subst (λ (names : List (List ℕ)). Contains names name) (sym moved.arrivals) there)

  granted : (asked : LineCommand) → Grants asked file old new text → Comes (λ later. Grants asked file other later text) new
  granted (add name) (inl (there, says, same)) =
      stays old new other (λ later. Grants (add name) file other later text) moved same (inl (has name there, says, refl))
  granted (add name) (inr (none, says, same)) =
      changes old new other (λ names. names ++ name ∷ []) (λ later. Grants (add name) file other later text) moved same
      (inr (lacks name none, says, refl))
  granted (remove name) (inl (there, says, same)) =
      changes old new other (filter (λ n. not (bytes_eq n name))) (λ later. Grants (remove name) file other later text) moved same
      (inl (has name there, says, refl))
  granted (remove name) (inr (none, says, same)) =
      stays old new other (λ later. Grants (remove name) file other later text) moved same (inr (lacks name none, says, refl))
  granted (find name) (says, same) =
      stays old new other (λ later. Grants (find name) file other later text) moved same
      (says ∙ ap listing (equal_same old other moved name), refl)
  granted (between first last) (says, same) =
      stays old new other (λ later. Grants (between first last) file other later text) moved same
      (says ∙ ap listing (between_same old other moved first last), refl)
  granted (key name) (says, same) =
      stays old new other (λ later. Grants (key name) file other later text) moved same
      (says ∙ ap (λ (bytes : List ℕ). ended (encode_lower bytes)) (key_same old other moved name), refl)
  granted list (says, same) =
      stays old new other (λ later. Grants list file other later text) moved same (says ∙ ap listing (sorted_same old other moved), refl)
  granted (reload count) (Ok made, (accepted, same, keys), says) = (
    reloaded (records_of file) other,
    (Ok made, (subst (λ (limits : Limits). IsAcceptedWithin limits file) moved.limits accepted, refl, made_same old other moved (records_of file) made keys), says),
    subst (λ (s : Catalogue). AreMoved s (reloaded (records_of file) other)) (sym same)
        (record {
          limits = moved.limits;
          accepted = lines_within old.limits file accepted;
          records = IsPermutation-refl (records_of file);
          asked = moved.asked;
          arrivals = moved.arrivals;
        }),
  )
  granted (reload count) (Err fault, (refuses, same), says) =
      stays old new other (λ later. Grants (reload count) file other later text) moved same
      (Err fault, (subst (λ (limits : Limits). RefusesWithin limits file (Fault fault)) moved.limits refuses, refl), says)
  granted unknown (says, same) = stays old new other (λ later. Grants unknown file other later text) moved same (says, refl)

  answered : (line : List ℕ) → Answers line file old new text → Comes (λ later. Answers line file other later text) new
  answered line (inl grants) = let there = granted (command_of line) grants in (there.0, inl there.1, there.2)
  answered line (inr (asks, says, same)) =
      stays old new other (λ later. Answers line file other later text) moved same (inr (asks, says, refl))

replied : (start other : Catalogue) → AreMoved start other → (lines : List (List ℕ)) (out : List ℕ) (now : Catalogue)
    → Replied start lines out now → Comes (λ later. Replied other lines out later) now
replied start other moved _ _ _ nothing = (other, nothing, moved)
replied start other moved _ _ _ (command lines out old line records text new before all answers) =
    let there = replied start other moved lines out old before in
    let step = answered old there.0 there.2 (flat_map ended records) new text line answers in
    (step.0, command lines out there.0 line records text step.0 there.1 all step.1, step.2)

pub replies_moved : (start other : Catalogue) → AreMoved start other → (lines : List (List ℕ)) (out : List ℕ)
    → AreReplies start lines out → AreReplies other lines out
replies_moved start other moved lines out replies =
    let there = replied start other moved lines out replies.0 replies.1 in (there.0, there.1)

-- catalogues that two such files open
pub opened_moved : (limits : Limits) (file other : List ℕ) (preferences : CollatorPreferences) (options : CollatorOptions)
    → IsAcceptedWithin limits file → IsPermutation (lines_of file) (lines_of other)
    → AreMoved (opened_by limits file preferences options) (opened_by limits other preferences options)
opened_moved limits file other preferences options accepted lines = record {
  limits = refl;
  accepted = lines_within limits file accepted;
  records = records_moved file other lines;
  asked = refl;
  arrivals = refl;
}

-- ## Runs

does_moved : (start other : Catalogue) → AreMoved start other → (result : Result (Unit {0}) RunFault) (left : Option (List ℕ))
    (lines : List (List ℕ)) (out : List ℕ) → Does start result left lines out → Does other result left lines out
does_moved start other moved (Ok _) left lines out (replies, end) = (replies_moved start other moved lines out replies, end)
does_moved start other moved (Err Write) left lines out (unsent, replies) = (unsent, replies_moved start other moved lines (out ++ unsent) replies)
does_moved start other moved (Err Memory) left lines out (front, rest, whole, replies, none) = (front, rest, whole, replies_moved start other moved front out replies, none)
does_moved start other moved (Err Read) left lines out (front, rest, whole, replies, none) = (front, rest, whole, replies_moved start other moved front out replies, none)
does_moved start other moved (Err LineTooLong) left lines out (front, rest, whole, replies, none) = (front, rest, whole, replies_moved start other moved front out replies, none)
does_moved start other moved (Err InputTooLong) left lines out (front, rest, whole, replies, none) = (front, rest, whole, replies_moved start other moved front out replies, none)
does_moved start other moved (Err CutReload) left lines out (front, rest, whole, replies, none) = (front, rest, whole, replies_moved start other moved front out replies, none)

pub ran_moved : (start other : Catalogue) → AreMoved start other → (result : Result (Unit {0}) RunFault)
    (reader_old reader_new writer_old writer_new : Option (List ℕ))
    → Ran start result reader_old reader_new writer_old writer_new → Ran other result reader_old reader_new writer_old writer_new
ran_moved start other moved result reader_old reader_new writer_old writer_new ran = record {
  taken = ran.taken;
  out = ran.out;
  consumes = ran.consumes;
  appends = ran.appends;
  does = does_moved start other moved result reader_new (lines_read result input_limit ran.taken) ran.out ran.does;
  line_limit_kept = ran.line_limit_kept;
  input_limit_kept = ran.input_limit_kept;
}
