-- What sinks of keys hold, and what writing a key to one gives.
use Rattle.std.specs.Prelude.{◌≡◌, ℕ, ◌<◌, ◌≤◌, ◌^◌, ◌-◌, min, List, ◌++◌, length, take, drop}
use Rattle.std.specs.Borrow.{MutBor}
use Rattle.icu_collator.specs.declared.sinks.KeyError.{KeyError}
use Rattle.icu_collator.specs.declared.sinks.KeyError.TheVariants.{Sink, Memory}
use Rattle.icu_collator.specs.declared.sinks.TooSmall.{TooSmall}

-- the greatest count
abbrev pub greatest_count : ℕ
greatest_count = 2 ^ 64 - 1

-- a count of bytes, which stays at the greatest
abbrev pub byte_count : List ℕ → ℕ
byte_count bytes = min (length bytes) greatest_count

-- a slice after bytes were written from its beginning: as many of them as fit, and after them what it held
abbrev pub overlaid : List ℕ → List ℕ → List ℕ
overlaid old bytes = take (length old) bytes ++ drop (length bytes) old

-- a slice after bytes were written from an index: as many as fit from there, and all else as it was
abbrev pub written_at : List ℕ → ℕ → List ℕ → List ℕ
written_at old index bytes = take index old ++ take (length old - index) bytes ++ drop (length bytes) (drop index old)

-- a slice that bytes were handed to: the same one, with as many of them as fit
pub record HasOverlaid (first : MutBor (List ℕ)) (bytes : List ℕ) (now : MutBor (List ℕ)) : Type 0 where
  pub same_reference : now.ghost_name ≡ first.ghost_name
  pub contents : now.now ≡ overlaid first.now bytes

-- all of the bytes fit a slice, and it begins with them
pub record FitsSlice (first : MutBor (List ℕ)) (bytes : List ℕ) (now : MutBor (List ℕ)) (output : ℕ) : Type 0 where
  pub same_reference : now.ghost_name ≡ first.ghost_name
  pub fits : length bytes ≤ length first.now
  pub contents : now.now ≡ bytes ++ drop (length bytes) first.now
  pub counted_all : output ≡ length bytes

-- not all of the bytes fit a slice: it holds those that do, and the error says how many there are
pub record PassesSlice (first : MutBor (List ℕ)) (bytes : List ℕ) (now : MutBor (List ℕ)) (error : TooSmall) : Type 0 where
  pub same_reference : now.ghost_name ≡ first.ghost_name
  pub passes : length first.now < length bytes
  pub contents : now.now ≡ take (length first.now) bytes
  pub counted_all : error.length ≡ byte_count bytes

-- a key that wasn't written: the sink took no more, or memory was refused, and then the sink is as it was
abbrev pub IsRefusedKey : {S E : Type 0} → (S → List ℕ → S → E → Type 0) → S → List ℕ → S → KeyError E → Type 0
IsRefusedKey failed old key new (Sink error) = failed old key new error
IsRefusedKey failed old key new Memory = new ≡ old
