-- Tokens within a level.
use Rattle.std.proofs.Common.{◌≡◌, List, [], ◌∷◌, ◌++◌, Option, refl, sym, ◌∙◌, ap}
use Rattle.hist_types.specs.Forms.{still_waiting}
use Rattle.hist_types.specs.Tokens.{Item}
use Rattle.hist_types.specs.declared.types.Fault.{Fault}
use Rattle.edn_lex.specs.declared.types.Token.{Token}
use Rattle.edn_lex.specs.Kinds.{kind_of, item_of}
use Rattle.edn_lex.specs.State.{State, Rest, GivesToken}
use Rattle.edn_lex.proofs.Exists.{Rest-exists}
use Rattle.edn_ops.specs.LevelEnds.{Role, opens, closes, waits, stands, role_of, LevelEnd, passed_by, level_end, end_behind, SameLevel, LevelEnds, WaitAtEnd}

-- ---- one token

-- s and t are in one level, and at t these collections are open in it
abbrev pub InLevel : State → List Item → State → List Item → List Item → Type 0
InLevel s before t inner marks =
    (tokens : List Item) (ending : Option Fault) → Rest s tokens ending →
    (later : List Item) × Rest t later ending × (level_end [] before tokens ≡ level_end inner marks later)

pub InLevel-refl : (s : State) (marks : List Item) → InLevel s marks s [] marks
InLevel-refl s marks = λ tokens ending rest. (tokens, rest, refl)

-- one token more
pub InLevel-step :
    (s t u : State) (token : Token) (before inner marks inner' marks' : List Item) → InLevel s before t inner marks → GivesToken t token u →
    ((ts : List Item) → level_end inner marks (item_of t.text token ∷ ts) ≡ level_end inner' marks' ts) → InLevel s before u inner' marks'
InLevel-step s t u token before inner marks inner' marks' level g is =
    λ tokens ending rest.
    let x = level tokens ending rest in
    let y = g.only x.0 ending x.1 in
    (y.0, y.2, x.2 ∙ ap (level_end inner marks) y.1 ∙ is y.0)

-- two stretches of a level
pub SameLevel-then : (s t u : State) (a b c : List Item) → SameLevel s a t b → SameLevel t b u c → SameLevel s a u c
SameLevel-then s t u a b c first second =
    λ tokens ending rest.
    let x = first tokens ending rest in
    let y = second x.0 ending x.1 in
    (y.0, y.1, x.2 ∙ y.2)

-- what a token does, by its role
pub passes : (t : Item) (ts inner marks : List Item) (role : Role) → role_of t.kind ≡ role →
    level_end inner marks (t ∷ ts) ≡ passed_by role inner marks t ts (λ i m. level_end i m ts)
passes t ts inner marks role is = ap (λ r. passed_by r inner marks t ts (λ i m. level_end i m ts)) is

-- ---- where a level ends

-- a closer where no collection is open within the level
pub WaitAtEnd-closer :
    (s t u : State) (token : Token) (before marks : List Item) → InLevel s before t [] marks → GivesToken t token u →
    role_of (kind_of token.kind) ≡ closes → WaitAtEnd s before marks
WaitAtEnd-closer s t u token before marks level g is =
    λ tokens ending rest.
    let x = level tokens ending rest in
    let y = g.only x.0 ending x.1 in
    ap (λ (e : LevelEnd). e.marks) (x.2 ∙ ap (level_end [] marks) y.1 ∙ passes (item_of t.text token) y.0 [] marks closes is)

-- no token more
pub WaitAtEnd-end :
    (s t : State) (before inner marks : List Item) → InLevel s before t inner marks →
    ((tokens : List Item) (ending : Option Fault) → Rest t tokens ending → tokens ≡ []) → WaitAtEnd s before marks
WaitAtEnd-end s t before inner marks level none =
    λ tokens ending rest.
    let x = level tokens ending rest in
    ap (λ (e : LevelEnd). e.marks) (x.2 ∙ ap (level_end inner marks) (none x.0 ending x.1))

-- what waits is determined
pub WaitAtEnd-unique : (s : State) (before marks others : List Item) → WaitAtEnd s before marks → WaitAtEnd s before others → marks ≡ others
WaitAtEnd-unique s before marks others first second =
    let x = Rest-exists s in
    sym (first x.0 x.1 x.2) ∙ second x.0 x.1 x.2

-- ---- behind the closer of a collection

-- the end of a level at its closer
abbrev ended_at : List Item → Item → List Item → LevelEnd
ended_at ms closer later = record { marks = ms; tokens = closer ∷ later }

-- Where the level ends at its closer, one more collection that is open around it ends there.
abbrev EndsInside : List Item → List Item → Item → List Item → Item → List Item → Type 0
EndsInside ts ms closer later opener outer =
    (inner marks ks : List Item) → level_end inner marks ts ≡ ended_at ms closer later → level_end (inner ++ opener ∷ outer) ks ts ≡ end_behind outer ks later

-- the closer itself
ends_here : (t : Item) (ts marks ms : List Item) (closer : Item) (later : List Item) (opener : Item) (outer ks : List Item) →
    ended_at marks t ts ≡ ended_at ms closer later →
    passed_by closes (opener ∷ outer) ks t ts (λ i m. level_end i m ts) ≡ end_behind outer ks later
ends_here t ts marks ms closer later opener [] ks h =
    let e : t ∷ ts ≡ closer ∷ later = ap (λ (e : LevelEnd). e.tokens) h in
    let same : ts ≡ later = cc in ap (level_end [] (still_waiting ks)) same
ends_here t ts marks ms closer later opener (j ∷ more) ks h =
    let e : t ∷ ts ≡ closer ∷ later = ap (λ (e : LevelEnd). e.tokens) h in
    let same : ts ≡ later = cc in ap (level_end (j ∷ more) ks) same

ends_step :
    (role : Role) (t : Item) (ts ms : List Item) (closer : Item) (later : List Item) (opener : Item) (outer : List Item) → EndsInside ts ms closer later opener outer →
    (inner marks ks : List Item) → passed_by role inner marks t ts (λ i m. level_end i m ts) ≡ ended_at ms closer later →
    passed_by role (inner ++ opener ∷ outer) ks t ts (λ i m. level_end i m ts) ≡ end_behind outer ks later
ends_step opens t ts ms closer later opener outer more inner marks ks h = more (t ∷ inner) marks ks h
ends_step closes t ts ms closer later opener outer more [] marks ks h = ends_here t ts marks ms closer later opener outer ks h
ends_step closes t ts ms closer later opener outer more (i ∷ []) marks ks h = more [] (still_waiting marks) ks h
ends_step closes t ts ms closer later opener outer more (i ∷ j ∷ is) marks ks h = more (j ∷ is) marks ks h
ends_step waits t ts ms closer later opener outer more [] marks ks h = more [] (t ∷ marks) ks h
ends_step waits t ts ms closer later opener outer more (i ∷ is) marks ks h = more (i ∷ is) marks ks h
ends_step stands t ts ms closer later opener outer more [] marks ks h = more [] (still_waiting marks) ks h
ends_step stands t ts ms closer later opener outer more (i ∷ is) marks ks h = more (i ∷ is) marks ks h

ends_inside : (ts ms : List Item) (closer : Item) (later : List Item) (opener : Item) (outer : List Item) → EndsInside ts ms closer later opener outer
ends_inside [] ms closer later opener outer =
    λ inner marks ks h. absurd (let e : [] ≡ closer ∷ later = ap (λ (e : LevelEnd). e.tokens) h in cc)
ends_inside (t ∷ ts) ms closer later opener outer =
    ends_step (role_of t.kind) t ts ms closer later opener outer (ends_inside ts ms closer later opener outer)

-- the level ends at its closer
pub LevelEnds-closer :
    (s t u : State) (token : Token) (before marks : List Item) → InLevel s before t [] marks → GivesToken t token u →
    role_of (kind_of token.kind) ≡ closes → LevelEnds s u
LevelEnds-closer s t u token before marks level g is =
    λ tokens ending rest.
    let x = level tokens ending rest in
    let y = g.only x.0 ending x.1 in
    let i = item_of t.text token in
    let end : level_end [] before tokens ≡ ended_at marks i y.0 = x.2 ∙ ap (level_end [] marks) y.1 ∙ passes i y.0 [] marks closes is in
    (y.0, y.2, λ opener outer ks. ends_inside tokens marks i y.0 opener outer [] before ks end)

-- a collection that was passed over is one form
pub InLevel-collection :
    (s t u v : State) (token : Token) (before inner marks : List Item) → InLevel s before t inner marks → GivesToken t token u →
    role_of (kind_of token.kind) ≡ opens → LevelEnds u v → (inner' marks' : List Item) →
    ((later : List Item) → end_behind inner marks later ≡ level_end inner' marks' later) → InLevel s before v inner' marks'
InLevel-collection s t u v token before inner marks level g is ends inner' marks' behind =
    λ tokens ending rest.
    let x = level tokens ending rest in
    let y = g.only x.0 ending x.1 in
    let z = ends y.0 ending y.2 in
    let i = item_of t.text token in
    (z.0, z.1, x.2 ∙ ap (level_end inner marks) y.1 ∙ passes i y.0 inner marks opens is ∙ z.2 i inner marks ∙ behind z.0)
