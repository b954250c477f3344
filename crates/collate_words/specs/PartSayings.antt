-- What is said of a character while its word is written: first with nothing before it, then with its prefixes.
use Rattle.std.specs.Prelude.{ℕ, List, [], Option, None}
use Rattle.icu_collator_types.specs.declared.elements.Element.{Element}
use Rattle.collate_words.specs.declared.entry.SuffixFlags.{SuffixFlags}
use Rattle.collate_words.specs.Sayings.{SaidBeside, Saying}

-- with nothing before it, and no digit
abbrev pub saying_behind : Option (List Element) → Option ℕ → List SaidBeside → SuffixFlags → Saying
saying_behind own offset suffixes flags =
    record {
      own = own;
      offset = offset;
      digit = None;
      suffixes = suffixes;
      prefixes = [];
      all_begin = flags.all_begin;
      one_ends = flags.one_ends;
      one_holds = flags.one_holds;
    }

-- with others before it
abbrev pub saying_before : Saying → List SaidBeside → Saying
saying_before saying saids = record saying { prefixes = saids }
