-- Where a packed vector has its bytes.
use Rattle.std.specs.Prelude.{ℕ, List}
use Rattle.icu_packed_vector.specs.declared.Bytes.{Bytes}
use Rattle.icu_packed_vector.specs.declared.Bytes.TheVariants.{Borrowed, Owned}

-- the bytes, borrowed or owned
abbrev pub bytes_of : Bytes → List ℕ
bytes_of (Borrowed bytes) = bytes.now
bytes_of (Owned bytes) = bytes.items
