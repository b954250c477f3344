-- how a list of lines is kept: its lines with the keys of what of each is compared
use Rattle.std.specs.Prelude.{◌≡◌, All, map}
use Rattle.collate_keyed_lines.specs.KeyedLines.{KeyedLine}
use Rattle.collate_rules.specs.Accepted.{AreAccepted}
use Rattle.collate_sort.specs.Keys.{key_by_rule}
use Rattle.collate_sort.specs.Listing.{Listing}
use Rattle.collate_sort.specs.Orders.{Line, LineRule}
use Rattle.collate_sort.specs.declared.list.LineList.TheInside.{Inside}

-- a line without its key
abbrev pub without_key : KeyedLine → Line
without_key keyed = record { line = keyed.line; text = keyed.text }

-- the key of a line is that of what of it is compared
abbrev pub IsKeyed : LineRule → KeyedLine → Type 0
IsKeyed rule keyed = keyed.key ≡ key_by_rule rule keyed.text

-- a list as its callers see it
abbrev pub listing_of : Inside → Listing
listing_of s = record { rule = s.order.now; lines = map without_key s.lines }

-- the lines of the records keep the rules, and each line has its key
pub record IsKept (s : Inside) : Type 0 where
  pub accepted : AreAccepted s.order.now.records.lines
  pub keyed : All (IsKeyed s.order.now) s.lines
