use Rattle.std.proofs.Common.{List, ap, map, ◌∙◌}
use Rattle.icu_normalizer_core.specs.BorrowedMeaning.{borrowed_meaning}
use Rattle.collate_lines.specs.Record.{Record, said}
use Rattle.collate_words.specs.declared.entry.Entry.{Entry}
use Rattle.collate_words.specs.Entries.{saying_of}
use Rattle.collate_compile.specs.BesideLines.{prefixes_in, suffixes_in}
use Rattle.collate_compile.proofs.gathering.OwnLineLemmas.{prefixes_own, suffixes_own}
use Rattle.collate_compile.proofs.gathering.GatheringEntryLemmas.{entry_few, entry_fits, entry_parts, entry_says}
use Rattle.collate_compile.proofs.entries.entry_of.Goals as goal

pub returns : goal.returns
returns c =
    let canonical = borrowed_meaning c.args.canonical.now in
    let lines = map said c.args.noted.now.lines.now in
    let entry : Entry = record {
      own = c.alone-own.result;
      offset = c.offset_unless-offset.result;
      digit = c.digit_of-digit.result;
      suffixes = c.in_ok-suffixes.suffixes;
      prefixes = c.in_ok-prefixes.prefixes;
      flags = c.flags_of-flags.result;
    } in
    let suffixes =
    c.in_ok-suffixes.ensures ∙ ap (λ (ls : List Record). suffixes_in ls c.args.character) c.own.ensures ∙ suffixes_own c.args.character lines in
    let prefixes =
    c.in_ok-prefixes.ensures ∙ ap (λ (ls : List Record). prefixes_in ls c.args.character) c.own-2.ensures ∙ prefixes_own c.args.character lines in
    let parts =
    entry_parts canonical lines c.args.character entry c.is_some.result c.as_slice.result.now c.alone-own.ensures
    c.is_some.ensures c.offset_unless-offset.ensures.offset
    c.offset_unless-offset.ensures.small c.digit_of-digit.ensures suffixes prefixes
    c.as_slice.ensures.value
    c.flags_of-flags.ensures.all_begin c.flags_of-flags.ensures.one_ends c.flags_of-flags.ensures.one_holds in
    record {
      says =
          entry_says canonical lines c.requires.accepted c.requires.canonical c.args.character (saying_of entry) parts;
      fit =
          entry_fits canonical lines c.requires.accepted c.requires.canonical c.args.character (saying_of entry) parts;
      few = entry_few canonical lines c.requires.accepted c.requires.canonical c.args.character (saying_of entry) parts;
    }
