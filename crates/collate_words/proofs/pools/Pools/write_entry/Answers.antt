use Rattle.std.proofs.Common.{◌≡◌, [], None, map, refl, ap}
use Rattle.std.specs.Option.{option_copied}
use Rattle.std.proofs.lemmas.Result.{IfOk-weaker}
use Rattle.collate_words.specs.DigitWords.{IsDigitOver}
use Rattle.collate_words.specs.Entries.{said_beside, saying_of}
use Rattle.collate_words.specs.PartSayings.{saying_before, saying_behind}
use Rattle.collate_words.specs.Sayings.{Saying}
use Rattle.collate_words.specs.Written.{SaysOf}
use Rattle.collate_words.proofs.growth.OwnGrowthLemmas.{IsOwnWord-larger}
use Rattle.collate_words.proofs.written.SayingLemmas.{digit_says}
use Rattle.collate_words.proofs.written.WritingLemmas.{digit_alone, entry_said, grown_entry, room_behind}
use Rattle.collate_words.proofs.pools.Pools.write_entry.Goals as goal

pub returns-in-Some-clause-says : goal.returns-in-Some-clause-says
returns-in-Some-clause-says c =
    let saying = saying_of c.args.entry.now in
    let alone = digit_alone saying c.in-Some.value c.in-Some.is c.requires.fit.digit in
    let own = IsOwnWord-larger c.write_own.new.self c.write_digit.new.self c.write_digit.ensures.grows c.in_ok-own.own
    saying.own saying.offset
    c.in_ok-own.ensures.says in
    IfOk-weaker c.write_digit.result (λ word. IsDigitOver c.write_digit.new.self word c.in-Some.value c.in_ok-own.own)
    (λ word. SaysOf c.write_digit.new.self word saying)
    (λ word is. digit_says c.write_digit.new.self word c.in-Some.value c.in_ok-own.own saying is alone.low own
    c.in-Some.is alone.no_suffixes alone.no_prefixes)
    c.write_digit.ensures.says

pub returns-in_ok-behind-in-None-clause-says : goal.returns-in_ok-behind-in-None-clause-says
returns-in_ok-behind-in-None-clause-says c =
    let entry = c.args.entry.now in
    let suffixes = c.as_slice-suffixes.result.now in
    let prefixes = c.as_slice-prefixes.result.now in
    let behind = saying_behind (option_copied entry.own) entry.offset (map said_beside suffixes) entry.flags in
    let says = c.in_ok-behind-in-None.ensures.says (option_copied entry.own) entry.offset c.in_ok-own.ensures.says in
    IfOk-weaker c.write_prefixes.result
    (λ word. (saying : Saying) → SaysOf c.write_suffixes.new.self c.in_ok-behind-in-None.behind saying
    → saying.prefixes ≡ [] → saying.digit ≡ None
    → SaysOf c.write_prefixes.new.self word (saying_before saying (map said_beside prefixes)))
    (λ word. SaysOf c.write_prefixes.new.self word (saying_of entry))
    (λ word told.
    entry_said c.write_prefixes.new.self word entry suffixes prefixes c.as_slice-suffixes.ensures.value
    c.as_slice-prefixes.ensures.value
    c.in-None.is (told behind says refl refl))
    c.write_prefixes.ensures.says

pub write_suffixes-requires-clause-room : goal.write_suffixes-requires-clause-room
write_suffixes-requires-clause-room c =
    room_behind (saying_of c.args.entry.now) c.as_slice-suffixes.result.now c.args.self.now c.write_own.new.self
    c.requires.room c.write_own.ensures.size (ap (map said_beside) c.as_slice-suffixes.ensures.value)

pub returns-in_ok-behind-in-None-clause-size : goal.returns-in_ok-behind-in-None-clause-size
returns-in_ok-behind-in-None-clause-size c =
    grown_entry (saying_of c.args.entry.now) c.as_slice-suffixes.result.now c.as_slice-prefixes.result.now
    c.args.self.now c.write_own.new.self c.write_suffixes.new.self c.write_prefixes.new.self
    c.write_own.ensures.size c.write_suffixes.ensures.size c.write_prefixes.ensures.size
    (ap (map said_beside) c.as_slice-suffixes.ensures.value) (ap (map said_beside) c.as_slice-prefixes.ensures.value)
