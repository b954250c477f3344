-- What an entry says, as plain lists.
use Rattle.std.specs.Prelude.{map}
use Rattle.std.specs.Option.{option_copied}
use Rattle.collate_words.specs.declared.entry.Beside.{Beside}
use Rattle.collate_words.specs.declared.entry.Entry.{Entry}
use Rattle.collate_words.specs.Sayings.{SaidBeside, Saying}

abbrev pub said_beside : Beside → SaidBeside
said_beside beside = record { characters = beside.characters.now; elements = beside.elements.now }

-- what an entry says
abbrev pub saying_of : Entry → Saying
saying_of entry =
    record {
      own = option_copied entry.own;
      offset = entry.offset;
      digit = entry.digit;
      suffixes = map said_beside entry.suffixes.items;
      prefixes = map said_beside entry.prefixes.items;
      all_begin = entry.flags.all_begin;
      one_ends = entry.flags.one_ends;
      one_holds = entry.flags.one_holds;
    }
