-- The kind of a run as the code keeps it: a base by value, and the text of its suffixes.
-- Assumes nothing.
use Rattle.std.specs.Prelude.{◌≡◌, List, [], ◌∷◌, ◌++◌, ℕ, ◌+◌, ◌*◌, ◌-◌, ◌≤◌, length, drop, Option, Some, Result, Ok, Err, MatchOption}
use Rattle.kinds.specs.Bytes.{lbracket, rbracket}
use Rattle.kinds.specs.Kind.{Suffix}
use Rattle.model.specs.declared.Refusal.{Refusal}
use Rattle.model.specs.KindText.{ok, err, inside, from_str}
use Rattle.model.specs.Record.{encode_elementary, encode_suffixes, encode_field}
use Rattle.model.specs.Tree.{field, elementary}
use Rattle.layout.specs.Buffer.{put}
use Rattle.value.specs.declared.First.{First}
use Rattle.value.specs.declared.Run.{Run}
use Rattle.value.specs.Elementary.{to_elementary}

-- a text is suffixes one behind the other, innermost first
abbrev pub Suffixed : List Suffix → List ℕ → Type 0
Suffixed [] t = t ≡ []
Suffixed (o ∷ os) t = (m u : List ℕ) × (t ≡ lbracket ∷ (m ++ (rbracket ∷ u))) × (inside m ≡ Some o) × Suffixed os u

-- a base, with the suffixes of the end of a text, whose records take len bytes
pub record ReadIs (t : List ℕ) (r : Run) : Type 0 where
  pub suffixes : List Suffix
  pub same : from_str t ≡ ok (record { kind = to_elementary r.base; suffixes = suffixes })
  pub inside : length r.suffixes.now ≤ length t
  pub ends : r.suffixes.now ≡ drop (length t - length r.suffixes.now) t
  pub suffixed : Suffixed suffixes r.suffixes.now
  pub size : r.len ≡ length (encode_suffixes 4 suffixes)
  pub small : r.len ≤ 5 * length r.suffixes.now

abbrev pub RunIs : List ℕ → Result Run Refusal → Type 0
RunIs t (Ok r) = ReadIs t r
RunIs t (Err w) = from_str t ≡ err w

-- the suffix that a text begins with that is suffixes, and the text of the others
abbrev pub FirstIs : List ℕ → Option First → Type 0
FirstIs t r = (ss : List Suffix) → Suffixed ss t → MatchOption r (ss ≡ []) (λ p. (os : List Suffix) × (ss ≡ p.suffix ∷ os) × Suffixed os p.behind.now)

-- what writing the suffixes of a text asks, and what it leaves
pub record SuffixesAt (t : List ℕ) (o : ℕ) (b : List ℕ) : Type 0 where
  pub suffixes : List Suffix
  pub suffixed : Suffixed suffixes t
  pub room : o + length (encode_suffixes 4 suffixes) ≤ length b

abbrev pub SuffixesPut : List ℕ → ℕ → List ℕ → List ℕ → Type 0
SuffixesPut t o b b₁ = (ss : List Suffix) → Suffixed ss t → b₁ ≡ put o (encode_suffixes 4 ss) b

-- a field of an elementary kind: what writing it asks and leaves
pub record LeafAt (r : Run) (nm b : List ℕ) : Type 0 where
  pub suffixes : List Suffix
  pub suffixed : Suffixed suffixes r.suffixes.now
  pub size : r.len ≡ length (encode_suffixes 4 suffixes)
  pub room : 14 + length nm + length (encode_elementary 4 (to_elementary r.base)) + r.len ≤ length b
  pub small : length nm + r.len ≤ 65536

abbrev pub LeafPut : Run → ℕ → List ℕ → List ℕ → List ℕ → Type 0
LeafPut r mark nm b b₁ = (ss : List Suffix) → Suffixed ss r.suffixes.now → b₁ ≡ put 0 (encode_field 4 (field mark nm (elementary (to_elementary r.base)) ss)) b
