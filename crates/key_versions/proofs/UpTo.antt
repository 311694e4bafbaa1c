-- Rows whose followers are at a place or before it.
use Rattle.std.proofs.Common.{◌≤◌, ◌-◌, ℕ, zero, suc, List, [], ◌∷◌, ◌++◌, length, map, replicate, All, subst, arith}
use Rattle.std.specs.Prelude.{filter}
use Rattle.std.proofs.lemmas.List.Elements.{All-append}
use Rattle.hist_types.proofs.Members.{in_map}
use Rattle.key_versions.specs.declared.pending.Access.{Access}
use Rattle.key_versions.specs.declared.types.Follower.{Follower}
use Rattle.key_versions.specs.Rows.{Known, unknown, change, follower, is_behind, with_follower, with_place, with_reader, with_writer, has_nil, written_rows, installed_rows, grown}
use Rattle.key_versions.specs.Steps.{FollowersAreUpTo}
use Rattle.key_versions.proofs.Changed.{all_cons, all_behind}
use Rattle.key_versions.proofs.Interleaved.{all_in}

up_to_changed :
    (n : ℕ) (f : Known → Known) (k : ℕ) (rows : List Known) → ((x : Known) → FollowersAreUpTo n x → FollowersAreUpTo n (f x)) → All (FollowersAreUpTo n) rows
    → All (FollowersAreUpTo n) (change f k rows)
up_to_changed n f k [] each all = all
up_to_changed n f zero (x ∷ rows) each all =
    let first : FollowersAreUpTo n x = all 0 x (omega arith) in
    all_cons (FollowersAreUpTo n) (f x) rows (each x first) (all_behind (FollowersAreUpTo n) x rows all)
up_to_changed n f (suc k) (x ∷ rows) each all =
    let first : FollowersAreUpTo n x = all 0 x (omega arith) in
    all_cons (FollowersAreUpTo n) x (change f k rows) first (up_to_changed n f k rows each (all_behind (FollowersAreUpTo n) x rows all))

-- what a transaction at the place adds

module _ (place : ℕ) where
  more_up_to : (fs : List Follower) (ws : List Access) → All (λ (f : Follower). f.txn ≤ place) fs → All (λ (f : Follower). f.txn ≤ place) (fs ++ map (follower place) ws)
  more_up_to fs ws all =
      All-append (λ (f : Follower). f.txn ≤ place) fs (map (follower place) ws) all
      (all_in (λ (f : Follower). f.txn ≤ place) (map (follower place) ws) (λ f i.
      let (a, among, is) = in_map (follower place) f ws i in
      subst (λ (g : Follower). g.txn ≤ place) is (omega arith)))

  pub up_to_followed : (w : Access) (k : ℕ) (rows : List Known) → All (FollowersAreUpTo place) rows → All (FollowersAreUpTo place) (change (with_follower (follower place w)) k rows)
  up_to_followed w k rows = up_to_changed place (with_follower (follower place w)) k rows (λ x. more_up_to x.followers (w ∷ []))

  pub up_to_placed : (k : ℕ) (rows : List Known) → All (FollowersAreUpTo place) rows → All (FollowersAreUpTo place) (change (with_place place) k rows)
  up_to_placed k rows = up_to_changed place (with_place place) k rows (λ x all. all)

  pub up_to_read : (r : Access) (installs : List Access) (k : ℕ) (rows : List Known) → All (FollowersAreUpTo place) rows → All (FollowersAreUpTo place) (change (with_reader place r installs) k rows)
  up_to_read r installs k rows = up_to_changed place (with_reader place r installs) k rows (λ x. more_up_to x.followers (filter (is_behind r) installs))

  pub up_to_written : (rows : List Known) (ws : List Access) → All (FollowersAreUpTo place) rows → All (FollowersAreUpTo place) (written_rows place rows ws)
  up_to_written rows [] all = all
  up_to_written rows (w ∷ ws) all =
      up_to_written (change (with_writer (record { txn = place; over = has_nil w.nil ws })) w.version rows) ws
      (up_to_changed place (with_writer (record { txn = place; over = has_nil w.nil ws })) w.version rows (λ x up. up) all)

  pub up_to_installed : (rows : List Known) (ws : List Access) → All (FollowersAreUpTo place) rows → All (FollowersAreUpTo place) (installed_rows place rows ws)
  up_to_installed rows [] all = all
  up_to_installed rows (w ∷ ws) all = up_to_installed (change (with_follower (follower place w)) w.nil rows) ws (up_to_followed w w.nil rows all)

none_up_to : (place m : ℕ) → All (FollowersAreUpTo place) (replicate m unknown)
none_up_to place zero = λ k d below. absurd (omega arith)
none_up_to place (suc m) = all_cons (FollowersAreUpTo place) unknown (replicate m unknown) (λ k d below. absurd (omega arith)) (none_up_to place m)

pub up_to_grown : (place n : ℕ) (rows : List Known) → All (FollowersAreUpTo place) rows → All (FollowersAreUpTo place) (grown n rows)
up_to_grown place n rows all = All-append (FollowersAreUpTo place) rows (replicate (n - length rows) unknown) all (none_up_to place (n - length rows))
