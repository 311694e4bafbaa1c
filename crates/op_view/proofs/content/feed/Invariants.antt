use Rattle.std.proofs.Common.{◌≡◌, length, true, fold}
use Rattle.op_view.specs.Decoding.{has_content, content_of}
use Rattle.op_view.specs.Hashing.{content_writes}
use Rattle.op_view.proofs.content.feed.Given as goal

-- feeding what is left comes to the same as feeding the whole
abbrev pub invariant-loop-byte : goal.invariant-loop-byte
invariant-loop-byte g l =
    (has_content l.left ≡ true)
    × (fold g.H.Hasher.write l.state (content_writes (content_of l.left)) ≡ fold g.H.Hasher.write l.fn.state (content_writes (content_of l.between)))

abbrev pub decreases-loop-byte : goal.decreases-loop-byte
decreases-loop-byte g l = length l.left
