use Rattle.std.proofs.Common.{◌≡◌, ℕ, List, ◌∷◌, drop, true}
use lib.Utf8.{scalars}
use Rattle.icu_normalizer_core.specs.BorrowedMeaning.{borrowed_meaning}
use Rattle.icu_collator_core.specs.JoinedTexts.{HasJoined, HaveMoved, IsWordOfText, has_suffixes}
use Rattle.icu_collator_core.specs.ReadTexts.{IsAtText, suffix_units}
use Rattle.icu_collator_core.specs.ReadWords.{AreSaidBy, table_word}
use Rattle.icu_collator_core.specs.TableMeaning.{pools_of}
use Rattle.icu_collator_core.specs.Weights.{Weights}
use Rattle.icu_collator_core.proofs.reading.joining.join_marks.Given as goal

abbrev pub invariant-loop-index : goal.invariant-loop-index
invariant-loop-index l =
    record {
      moved : HaveMoved (borrowed_meaning l.canonical).class l.first.next l.initial.list l.index l.list l.text;
      joined : (weights : Weights) (c : ℕ) (suffix : List ℕ) → AreSaidBy weights (table_word l.entry) c → has_suffixes (table_word l.entry) ≡ true
          → IsAtText (suffix_units (table_word l.entry)) suffix l.first.cursor → IsWordOfText weights (pools_of l.entry.source.now) c (c ∷ suffix) l.first.word
          → scalars suffix ≡ true → scalars (drop l.first.next l.initial.list) ≡ true
          → HasJoined (borrowed_meaning l.canonical) weights (table_word l.entry) c suffix l.first.next l.initial.list l.index l.list l.text;
    }
