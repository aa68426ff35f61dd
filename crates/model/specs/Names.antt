-- Names: which bytes are one, which names are packable, their order, and the log rule's prefixes.
use Rattle.std.specs.Prelude.{Bool, true, false, ◌&&◌, ◌||◌, not, cond, List, [], ◌∷◌, ◌++◌, ℕ, ◌-◌, length, drop, eqb, ltb, leb}
use Prim.Native.Char.{Char, code}
use Prim.Native.String.{String}
use Rattle.word.specs.Tests.{same_list}
use Rattle.model.specs.declared.WriteReflog.{WriteReflog}
use Rattle.model.specs.declared.WriteReflog.TheVariants.{Disable, Normal, Always}
use Rattle.model.specs.Basic.{text, all, is_empty}

-- ---- bytes

abbrev pub same_bytes : List ℕ → List ℕ → Bool
same_bytes xs ys = same_list xs ys

-- the first begins the second
abbrev pub begins : List ℕ → List ℕ → Bool
begins [] n = true
begins (p ∷ ps) [] = false
begins (p ∷ ps) (b ∷ bs) = eqb p b && begins ps bs

-- the first stands somewhere in the second
abbrev pub within : List ℕ → List ℕ → Bool
within p [] = begins p []
within p (b ∷ bs) = begins p (b ∷ bs) || within p bs

-- a name is, begins with, holds, ends in a text
abbrev pub is : String → List ℕ → Bool
is t n = same_bytes (text t) n

abbrev pub under : String → List ℕ → Bool
under t n = begins (text t) n

abbrev pub holds : String → List ℕ → Bool
holds t n = within (text t) n

abbrev pub ends_in : String → List ℕ → Bool
ends_in t n = same_bytes (text t) (drop (length n - length (text t)) n)

-- a name lies beneath another if it begins with that name and a `/`
unfoldable pub beneath : List ℕ → List ℕ → Bool
beneath name above = begins (above ++ text "/") name

-- byte order: the first stands before the second
abbrev pub before : List ℕ → List ℕ → Bool
before [] [] = false
before [] (y ∷ ys) = true
before (x ∷ xs) [] = false
before (x ∷ xs) (y ∷ ys) = ltb x y || (eqb x y && before xs ys)

-- ---- the syntax of a name

abbrev pub between : Char → Char → ℕ → Bool
between a z b = leb (code a) b && leb b (code z)

abbrev pub is_char : Char → ℕ → Bool
is_char c b = eqb b (code c)

-- A to Z and `_`, first a letter
abbrev pub is_upper : ℕ → Bool
is_upper b = between "A" "Z" b || is_char "_" b

unfoldable pub is_special : List ℕ → Bool
is_special [] = false
is_special (b ∷ bs) = between "A" "Z" b && all is_upper bs

-- a component: letters, digits, `-`, `_`, `.`; not empty, not begun with `.`, not ended with `.lock`
abbrev pub is_component_byte : ℕ → Bool
is_component_byte b = between "A" "Z" b || between "a" "z" b || between "0" "9" b || is_char "-" b || is_char "_" b || is_char "." b

unfoldable pub is_component : List ℕ → Bool
is_component c = not (is_empty c) && all is_component_byte c && not (under "." c) && not (ends_in ".lock" c)

-- what stands between the bytes c
abbrev pub grow : ℕ → List (List ℕ) → List (List ℕ)
grow b [] = (b ∷ []) ∷ []
grow b (c ∷ cs) = (b ∷ c) ∷ cs

abbrev pub pieces : ℕ → List ℕ → List (List ℕ)
pieces c [] = [] ∷ []
pieces c (b ∷ bs) = cond (eqb b c) ([] ∷ pieces c bs) (grow b (pieces c bs))

-- the components are what stands between the `/`
abbrev pub components : List ℕ → List (List ℕ)
components n = pieces (code "/") n

-- `refs/` and components joined by single `/`; `..` nowhere; no final `.`
unfoldable pub is_ref : List ℕ → Bool
is_ref n = under "refs/" n && all is_component (components (drop 5 n)) && not (holds ".." n) && not (ends_in "." n)

-- a name has 1 to 64 bytes, and is of one of the two forms
unfoldable pub is_name : List ℕ → Bool
is_name n = leb 1 (length n) && leb (length n) 64 && (is_special n || is_ref n)

-- ---- what a name is by its prefix

-- packable: begins `refs/` and not `refs/bisect/`, `refs/worktree/` or `refs/rewritten/`
unfoldable pub packable : List ℕ → Bool
packable n = under "refs/" n && not (under "refs/bisect/" n || under "refs/worktree/" n || under "refs/rewritten/" n)

abbrev pub is_disabled : WriteReflog → Bool
is_disabled Disable = true
is_disabled Normal = false
is_disabled Always = false

-- the log rule by itself: setting 0 never; 1 `HEAD` and under `refs/heads/`, `refs/remotes/`, `refs/notes/`;
-- 2 `HEAD` and under `refs/`
unfoldable pub logs : WriteReflog → List ℕ → Bool
logs Disable n = false
logs Normal n = is "HEAD" n || under "refs/heads/" n || under "refs/remotes/" n || under "refs/notes/" n
logs Always n = is "HEAD" n || under "refs/" n
