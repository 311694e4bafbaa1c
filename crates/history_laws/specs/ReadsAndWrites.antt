-- External reads and writes by what comes before and after them: the words of the laws about them.
use Rattle.std.specs.Prelude.{◌≡◌, List, ◌∷◌, ◌++◌, All}
use Rattle.hist_types.specs.Atoms.{Atom}
use Rattle.hist_types.specs.Journal.{Write, writes_of}
use Rattle.hist_types.specs.Operations.{Mop, read, write}
use Rattle.hist_types.specs.Transactions.{Version}

abbrev pub WritesAnother : Atom → Write → Type 0
WritesAnother key w = ¬ (w.key ≡ key)

-- a read of the version is one of the list's, and no write of its key comes before it
abbrev pub ReadsFirst : List Mop → Version → Type 0
ReadsFirst mops v =
    (before : List Mop)
    × (after : List Mop)
    × (mops ≡ before ++ read v.key v.value ∷ after)
    × All (WritesAnother v.key) (writes_of before)

-- the write is one of the list's, and no write of its key comes after it
abbrev pub WritesLast : List Mop → Write → Type 0
WritesLast mops w =
    (before : List Mop)
    × (after : List Mop)
    × (mops ≡ before ++ write w.key w.value ∷ after)
    × All (WritesAnother w.key) (writes_of after)
