-- What is read of a file whose bytes are known.
use Rattle.std.proofs.Common.{◌≡◌, ℕ, ◌+◌, ◌-◌, ◌<◌, ◌≤◌, ◌^◌, ⊎_elim, Option, Some, None, List, [], ◌++◌, length, take, sym, ap, subst, ◌∙◌, arith}
use Rattle.std.specs.Prelude.{IfSome, min, option_map}
use Rattle.std.specs.Io.Take.{take_remaining}
use Rattle.std.specs.declared.io.traits.Take.{Take}
use Rattle.std.proofs.lemmas.Bool.{cases_lt}
use Rattle.std.proofs.lemmas.List.{length-take, take_all}

-- so many bytes, or one more than a limit, that no file in memory reaches
take_more : (most limit : ℕ) (held : List ℕ) → most ≡ min (limit + 1) (2 ^ 64 - 1) → length (take most held) < 2 ^ 63 → take most held ≡ take (limit + 1) held
take_more most limit held is small =
    ⊎_elim
    (λ (far : 2 ^ 64 - 1 < limit + 1).
    let short : length held ≤ most = omega (arith, is, small, far, length-take most held) in
    take_all most held short ∙ sym (take_all (limit + 1) held (omega (arith, short, is, far))))
    (λ (near : limit + 1 ≤ 2 ^ 64 - 1). ap (λ (n : ℕ). take n held) (omega (arith, is, near)))
    (cases_lt (2 ^ 64 - 1) (limit + 1))

first_bytes : (known : Option (List ℕ)) (most limit : ℕ) (old new : List ℕ) → old ≡ [] → most ≡ min (limit + 1) (2 ^ 64 - 1) → length new < 2 ^ 63
    → IfSome (option_map (take most) known) (λ given. new ≡ old ++ given) → IfSome known (λ held. new ≡ take (limit + 1) held)
first_bytes None most limit old new none is small read = tt
first_bytes (Some held) most limit old new none is small read =
    let all : new ≡ take most held = read ∙ ap (λ (xs : List ℕ). xs ++ take most held) none in
    all ∙ take_more most limit held is (omega (arith, small, ap length all))

-- what a reader that is cut off gave to its end
pub taken_bytes : {F : Type 0} (remaining : F → Option (List ℕ)) (taken : Take F) (file : F) (most limit : ℕ) (old new : List ℕ)
    → taken.limit ≡ most → taken.inner ≡ file → old ≡ [] → most ≡ min (limit + 1) (2 ^ 64 - 1) → length new < 2 ^ 63
    → IfSome (take_remaining remaining taken) (λ given. new ≡ old ++ given) → IfSome (remaining file) (λ held. new ≡ take (limit + 1) held)
taken_bytes {F} remaining taken file most limit old new cut inner none is small read =
    first_bytes (remaining file) most limit old new none is small
    (subst (λ (f : F). IfSome (option_map (take most) (remaining f)) (λ given. new ≡ old ++ given)) inner
    (subst (λ (n : ℕ). IfSome (option_map (take n) (remaining taken.inner)) (λ given. new ≡ old ++ given)) cut read))
