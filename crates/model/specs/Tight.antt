-- Order 12, a tighter record: records as trees without lengths, laid out with lengths of any width; and what a tight record says.
-- Assumes nothing.
use Rattle.std.specs.Prelude.{List, [], ◌∷◌, ◌++◌, ℕ, zero, suc, leb, ltb, length, take, drop, Option, None, Some}
use Rattle.model.specs.declared.Refusal.TheVariants.{NotTight}
use Rattle.model.specs.Tree.{Declaration}
use Rattle.model.specs.Layout.{record_of, piece_of}
use Rattle.model.specs.Record.{encode, longest_record, given, on_option, when, ended, on_piece, case, select, each, decode_declaration, decode}
use Rattle.model.specs.Line.{canonical_text, signature_text}
use Rattle.model.specs.Full.{full_text}
use Rattle.model.specs.Answer.{Output, writes, refuses}
use Rattle.model.specs.Calls.{or_wrong_sort, of_record}

-- The calls. "In the tight layout every length is 2 bytes instead of 4 and counts the tight record; all else is equal, and it is for single
-- declarations only.": the tight record of a declaration is `encode 2` of it.

-- The declaration that a tight record says. The 40,960 bytes of document 01 are measured on its old form.
unfoldable pub decode_tight : List ℕ → Option Declaration
decode_tight b =
    given (on_piece (piece_of 2 b) (λ k body r. ended r (decode_declaration 2 k body))) (λ d. when (leb (length (encode 4 d)) longest_record) (Some d))

-- "28 the bytes aren't the tight layout of a well-formed declaration, in place of 15"; "Every number from 21 on, later ones too, has position 0."
abbrev pub of_tight : Option Declaration → (Declaration → Output) → Output
of_tight None f = refuses NotTight 0
of_tight (Some d) f = f d

-- "Convert each layout to the other."
unfoldable pub tight_output : List ℕ → Output
tight_output b = of_record (decode b) (λ d. writes (encode 2 d))

unfoldable pub wide_output : List ℕ → Output
wide_output b = of_tight (decode_tight b) (λ d. writes (encode 4 d))

-- "canonical, signature and full text from a tight record"
unfoldable pub canonical_tight_output : List ℕ → Output
canonical_tight_output b = of_tight (decode_tight b) (λ d. or_wrong_sort (canonical_text d))

unfoldable pub signature_tight_output : List ℕ → Output
signature_tight_output b = of_tight (decode_tight b) (λ d. or_wrong_sort (signature_text d))

unfoldable pub full_tight_output : List ℕ → Output
full_tight_output b = of_tight (decode_tight b) (λ d. writes (full_text d))

-- Records of any kind.

-- a record without its lengths: its kind, the bytes of its body that are no records, and the records behind them
mutual
  pub data Node : Type 0 where
    node : ℕ → List ℕ → Nodes → Node

  pub data Nodes : Type 0 where
    no_node : Nodes
    more_nodes : Node → Nodes → Nodes

-- laid out with lengths of w bytes, each of which counts the record as it is laid out
unfoldable mutual
  pub laid : ℕ → Node → List ℕ
  laid w (node k p ns) = record_of w k (p ++ laid_all w ns)

  pub laid_all : ℕ → Nodes → List ℕ
  laid_all w no_node = []
  laid_all w (more_nodes n ns) = laid w n ++ laid_all w ns

-- how many bytes stand before the records in a body, by the record's kind; none where it holds no records
unfoldable pub front_length : ℕ → Option ℕ
front_length k =
    select (case 0x9 (Some 0) ∷ case 0x10 (Some 2) ∷ case 0x12 (Some 0) ∷ case 0x20 (Some 2) ∷ case 0x21 (Some 2) ∷ case 0x22 (Some 2) ∷ case 0x23 (Some 0) ∷ []) None k

-- the records that bytes say with lengths of w bytes, where they nest at most d deep
module _ (w : ℕ) where
  -- one, by its kind and body, where N reads the records in it
  abbrev pub node_by : (List ℕ → Option Nodes) → ℕ → List ℕ → Option ℕ → Option Node
  node_by N k body None = Some (node k body no_node)
  node_by N k body (Some m) = when (leb m (length body)) (on_option (node k (take m body)) (N (drop m body)))

  -- a kind has two bytes
  unfoldable pub node_from : (List ℕ → Option Nodes) → ℕ → List ℕ → Option Node
  node_from N k body = when (ltb k 65536) (node_by N k body (front_length k))

  unfoldable pub nodes_from : ℕ → List ℕ → Option Nodes
  nodes_from zero b = None
  nodes_from (suc d) b = each w no_node more_nodes (node_from (nodes_from d)) b

-- a declaration, its list, 32 times a field and its tuple, a field and its kind
abbrev pub deepest_record : ℕ
deepest_record = 68

-- the same records with lengths of v bytes instead of w
unfoldable pub relaid : ℕ → ℕ → ℕ → List ℕ → Option (List ℕ)
relaid w v d b = on_option (laid_all v) (nodes_from w d b)
