-- What a source gave to a window.
use Rattle.std.proofs.Common.{◌≡◌, ℕ, ◌≤◌, List, [], ◌++◌, length, take, Option, Some, None, refl, sym, ap, subst, ◌∙◌}
use Rattle.std.proofs.lemmas.List.{append_assoc}
use Rattle.std.specs.Io.KnownBytes.{Consumes}
use Rattle.hist_types.specs.Devices.{CountsFailure}
use Rattle.hist_types.specs.declared.device.Source.{Ghosts}
use Rattle.block_reader.specs.Windows.{Held}
use Rattle.verdict_serve.specs.Cuts.{Cut, IsNext, IsUnbroken}
use Rattle.verdict_serve.specs.Sources.{HasGiven, HasFailedAfter, HasFailed, GivesNext}
use Rattle.verdict_serve.specs.declared.lines.Next.{Next}

-- ---- what a window has taken

module _ {S : Type 0} (device : Ghosts S) where
  -- the window holds also what the source gave, and no byte 10 is among the first of these bytes
  pub record HasGrown (w : Held) (source : S) (w' : Held) (source' : S) (searched : ℕ) : Type 0 where
    pub given : List ℕ
    pub has_given : HasGiven device source source' given
    pub held_is : w'.bytes ≡ w.bytes ++ given
    pub within : searched ≤ length w'.bytes
    pub unbroken : IsUnbroken (take searched w'.bytes)

  -- the window has dropped what the source gave, which had no byte 10
  pub record HasDropped (source : S) (w' : Held) (source' : S) : Type 0 where
    pub given : List ℕ
    pub has_given : HasGiven device source source' given
    pub unbroken : IsUnbroken given
    pub held_is : w'.bytes ≡ []

-- no bytes were given
pub none_consumed : (known : Option (List ℕ)) → Consumes known known []
none_consumed None = tt
none_consumed (Some xs) = refl

pub consumed_both : (a b c : Option (List ℕ)) (xs ys : List ℕ) → Consumes a b xs → Consumes b c ys → Consumes a c (xs ++ ys)
consumed_both None b c xs ys first second = tt
consumed_both (Some p) None c xs ys first second = absurd first
consumed_both (Some p) (Some q) None xs ys first second = absurd second
consumed_both (Some p) (Some q) (Some r) xs ys first second = first ∙ (ap (λ (t : List ℕ). xs ++ t) second ∙ sym (append_assoc xs ys r))

module _ {S : Type 0} (device : Ghosts S) where
  pub given_none : (source : S) → HasGiven device source source []
  given_none source = record { taken = none_consumed (device.remaining source); no_failure = refl }

  pub given_both :
      (a b c : S) (xs ys : List ℕ)
      → HasGiven device a b xs
      → HasGiven device b c ys
      → HasGiven device a c (xs ++ ys)
  given_both a b c xs ys first second = record {
    taken = consumed_both (device.remaining a) (device.remaining b) (device.remaining c) xs ys first.taken second.taken;
    no_failure = second.no_failure ∙ first.no_failure;
  }

  pub failed_later :
      (a b c : S) (xs ys : List ℕ)
      → HasGiven device a b xs
      → HasFailedAfter device b c ys
      → HasFailedAfter device a c (xs ++ ys)
  failed_later a b c xs ys first second = record {
    taken = consumed_both (device.remaining a) (device.remaining b) (device.remaining c) xs ys first.taken second.taken;
    failed = subst (λ (n : ℕ). CountsFailure n (device.failures c)) first.no_failure second.failed;
  }

  -- what a source gives next after it gave more
  pub gives_later :
      (a b c : S) (next : Next) (bytes more held : List ℕ) (cut : Cut)
      → held ≡ bytes ++ more
      → HasGiven device a b more
      → GivesNext device next held b c cut
      → GivesNext device next bytes a c cut
  gives_later a b c next bytes more held cut e first gives =
      let whole : held ++ gives.0 ≡ bytes ++ (more ++ gives.0) = ap (λ (t : List ℕ). t ++ gives.0) e ∙ append_assoc bytes more gives.0 in
      (more ++ gives.0, given_both a b c more gives.0 first gives.1, subst (λ (t : List ℕ). IsNext next t cut) whole gives.2)

  pub fails_later :
      (a b c : S) (bytes more held : List ℕ)
      → held ≡ bytes ++ more
      → HasGiven device a b more
      → HasFailed device held b c
      → HasFailed device bytes a c
  fails_later a b c bytes more held e first fails =
      let whole : held ++ fails.0 ≡ bytes ++ (more ++ fails.0) = ap (λ (t : List ℕ). t ++ fails.0) e ∙ append_assoc bytes more fails.0 in
      (more ++ fails.0, failed_later a b c more fails.0 first fails.1, subst IsUnbroken whole fails.2)
