-- hashes of texts
use Rattle.std.specs.Prelude.{ℕ, Bool, ◌+◌, ◌*◌, ◌%◌, List, [], ◌∷◌, nat_lt}
use Rattle.collate_lists.specs.declared.hashing.TheConstants.{PRIME}

-- a polynomial at a point, modulo a prime, carried on over bytes; each counts one more, so that none counts nothing
abbrev pub hash_from : ℕ → ℕ → List ℕ → ℕ
hash_from point hash [] = hash
hash_from point hash (byte ∷ bytes) = hash_from point ((hash * point + byte + 1) % PRIME) bytes

-- the hash of a text under a seed, which is never 0
abbrev pub hash_of : ℕ → List ℕ → ℕ
hash_of seed bytes = hash_from (seed % PRIME) 0 bytes + 1

-- a hash stands there
abbrev pub is_hash : ℕ → Bool
is_hash hash = nat_lt 0 hash
