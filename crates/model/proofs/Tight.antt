-- Tight records: bytes decode exactly where they are the tight record of a well-formed declaration; the layouts are converted into each other and
-- back; and what is written of a declaration is the same from either. No proof here has a case for a kind of record.
-- Assumes nothing.
use mathlib.Core.Path.{◌≡◌, refl, sym, ◌∙◌, ap}
use mathlib.Core.Logic.{◌↔◌}
use mathlib.Core.Bool.{true}
use mathlib.Core.List.{List}
use Rattle.std.specs.Prelude.{Option, None, Some}
use Rattle.std.proofs.lemmas.Option.{none-some, same_Some}
use Prim.Native.Nat.{ℕ, ◌+◌, ◌*◌, ◌^◌, ◌≤◌, ◌<◌}
use native.Mathlib.Omega.{arith}
use lib.Dec.{leb}
use lib.ListN.{length}
use borrow.Author.Tests.{leb-true, lt-leb}
use Rattle.kinds.proofs.Logic.{both, left, right}
use Rattle.model.specs.Tree.{Declaration}
use Rattle.model.specs.Layout.{Bytes}
use Rattle.model.specs.Record.{encode, given, on_option, is_declaration, well_formed, longest_record, decode_declaration, decode}
use Rattle.model.specs.Line.{canonical_text, signature_text}
use Rattle.model.specs.Full.{full_text, full_output}
use Rattle.model.specs.Answer.{Output, writes}
use Rattle.model.specs.Calls.{or_wrong_sort, of_record, canonical_output, signature_output}
use Rattle.model.specs.Tight.{decode_tight, of_tight, tight_output, wide_output, canonical_tight_output, signature_tight_output, full_tight_output, Nodes, laid_all, nodes_from, deepest_record, relaid}
use Rattle.model.proofs.Lengths.{said-by, refuses-not}
use Rattle.model.proofs.Decoding.{when-some, given-some, on_some, alone-to, alone-from}
use Rattle.model.proofs.Records.{declaration-reads, decode-exactly, encode-bytes}
use Rattle.model.proofs.TightNodes.{nodes_spell, all_heads, all-wider, all-heads-few, nodes_bytes}
use Rattle.model.proofs.TightTrees.{sole, sole-laid, declaration_nodes}

-- how long a tight record is: two bytes less for each record in it
pub tight-length : (d : Declaration) → length (encode 4 d) ≡ length (encode 2 d) + 2 * all_heads (sole d)
tight-length d = rw (sole-laid 2 d, sole-laid 4 d) (all-wider (sole d))

formed : (d : Declaration) → well_formed d ≡ true → (is_declaration d ≡ true) × (length (encode 4 d) ≤ longest_record)
unfolding well_formed
formed d g = (left _ g, leb-true (length (encode 4 d)) longest_record (right (is_declaration d) g))

-- a declaration whose old form is well formed has a tight form that 2 bytes count
pub tight-fits : (d : Declaration) → well_formed d ≡ true → length (encode 2 d) < 256 ^ 2
tight-fits d g = omega (arith, (formed d g).1, tight-length d)

-- the tight record of a well-formed declaration, and no other bytes
pub tight-exactly : (b : List ℕ) (d : Declaration) → Bytes b → (decode_tight b ≡ Some d) ↔ ((well_formed d ≡ true) × (b ≡ encode 2 d))
unfolding decode_tight well_formed
tight-exactly b d h = (from, to)
  where
    from : decode_tight b ≡ Some d → (well_formed d ≡ true) × (b ≡ encode 2 d)
    from e =
        given-some _ _ e (λ x p q.
        when-some _ _ q (λ l r.
        let (g, u) = alone-from 2 (decode_declaration 2) is_declaration (encode 2) (declaration-reads 2) b x h p in
        rw (← (same_Some x d r)) (both g l, u)))

    to : (well_formed d ≡ true) × (b ≡ encode 2 d) → decode_tight b ≡ Some d
    to (g, u) =
        let l : leb (length (encode 4 d)) longest_record ≡ true = right (is_declaration d) g in
        rw (u, alone-to 2 (decode_declaration 2) is_declaration (encode 2) (declaration-reads 2) d (left _ g) (tight-fits d g), l)

-- its records, with lengths of any width
pub nodes_of : (w : ℕ) (d : Declaration) → well_formed d ≡ true → length (encode w d) < 256 ^ w → nodes_from w deepest_record (encode w d) ≡ Some (sole d)
nodes_of w d g l = rw (sole-laid w d) ((nodes_spell w deepest_record).to (sole d) (declaration_nodes d (formed d g).0) (rw (sole-laid w d) at l))

wide_fits : (d : Declaration) → well_formed d ≡ true → length (encode 4 d) < 256 ^ 4
wide_fits d g = omega (arith, (formed d g).1)

-- the old record of a declaration with shorter lengths is its tight record
pub record_relaid : (b : List ℕ) (d : Declaration) → Bytes b → decode b ≡ Some d → relaid 4 2 deepest_record b ≡ Some (encode 2 d)
unfolding relaid
record_relaid b d h e =
    let (g, u) = (decode-exactly b d h).0 e in
    rw (u, nodes_of 4 d g (wide_fits d g), ← (sole-laid 2 d))

-- a tight record says what its records with longer lengths say
pub tight-relaid : (b : List ℕ) → Bytes b → decode_tight b ≡ given (relaid 2 4 deepest_record b) decode
unfolding relaid
tight-relaid b h = go (nodes_from 2 deepest_record b) refl (decode_tight b) refl
  where
    there : (d : Declaration) → decode_tight b ≡ Some d → nodes_from 2 deepest_record b ≡ Some (sole d)
    there d e = let (g, u) = (tight-exactly b d h).0 e in rw u (nodes_of 2 d g (tight-fits d g))

    forth : (ns : Nodes) → nodes_from 2 deepest_record b ≡ Some ns → (d : Declaration) → decode_tight b ≡ Some d → decode (laid_all 4 ns) ≡ Some d
    forth ns e d f =
        let (g, u) = (tight-exactly b d h).0 f in
        let same : ns ≡ sole d = same_Some _ _ (sym e ∙ there d f) in
        rw (same, ← (sole-laid 4 d)) ((decode-exactly (encode 4 d) d (encode-bytes d g)).1 (g, refl))

    back : (ns : Nodes) → nodes_from 2 deepest_record b ≡ Some ns → (d : Declaration) → decode (laid_all 4 ns) ≡ Some d → decode_tight b ≡ Some d
    back ns e d f =
        let (good, u) = (nodes_spell 2 deepest_record).from b ns h e in
        let (g, v) = (decode-exactly (laid_all 4 ns) d (nodes_bytes 2 4 ns (rw u at h))).0 f in
        let one = (nodes_spell 4 deepest_record).to ns good (rw v (wide_fits d g)) in
        let same : ns ≡ sole d = same_Some _ _ (sym one ∙ ap (nodes_from 4 deepest_record) v ∙ nodes_of 4 d g (wide_fits d g)) in
        (tight-exactly b d h).1 (g, u ∙ ap (laid_all 2) same ∙ sym (sole-laid 2 d))

    last : (ns : Nodes) → nodes_from 2 deepest_record b ≡ Some ns → (o p : Option Declaration) → decode_tight b ≡ o → decode (laid_all 4 ns) ≡ p → decode_tight b ≡ decode (laid_all 4 ns)
    last ns e None None x y = x ∙ sym y
    last ns e (Some d) p x y = x ∙ sym (forth ns e d x)
    last ns e None (Some d) x y = back ns e d y ∙ sym y

    go : (o : Option Nodes) → nodes_from 2 deepest_record b ≡ o → (p : Option Declaration) → decode_tight b ≡ p → decode_tight b ≡ given (on_option (laid_all 4) o) decode
    go None e None x = x
    go None e (Some d) x = absurd (none-some (sole d) (sym e ∙ there d x))
    go (Some ns) e p x = last ns e (decode_tight b) (decode (laid_all 4 ns)) refl refl

-- longer lengths make no bytes half as long again
pub relaid-small : (d : ℕ) (b u : List ℕ) → Bytes b → relaid 2 4 d b ≡ Some u → 2 * length u ≤ 3 * length b
unfolding relaid
relaid-small d b u h e =
    on_some (laid_all 4) (nodes_from 2 d b) e (λ ns p q.
    let (good, v) = (nodes_spell 2 d).from b ns h p in
    rw (← q, v) (omega (arith, all-wider ns, all-heads-few ns)))

pub relaid-bytes : (d : ℕ) (b u : List ℕ) → Bytes b → relaid 2 4 d b ≡ Some u → Bytes u
unfolding relaid
relaid-bytes d b u h e =
    on_some (laid_all 4) (nodes_from 2 d b) e (λ ns p q.
    let (good, v) = (nodes_spell 2 d).from b ns h p in
    rw (← q) (nodes_bytes 2 4 ns (rw v at h)))

-- what does not fit 40,960 bytes is no declaration's record
pub decode-long : (b : List ℕ) → longest_record < length b → decode b ≡ None
unfolding decode
decode-long b h = rw (lt-leb (length b) longest_record h)

-- "Convert each layout to the other."
pub tight-bytes : (d : Declaration) → well_formed d ≡ true → Bytes (encode 2 d)
tight-bytes d g = rw (sole-laid 2 d) (nodes_bytes 4 2 (sole d) (rw (sole-laid 4 d) at (encode-bytes d g)))

-- every well-formed declaration has a tight form
pub tight-written : (d : Declaration) → well_formed d ≡ true → tight_output (encode 4 d) ≡ writes (encode 2 d)
unfolding tight_output
tight-written d g = rw ((decode-exactly (encode 4 d) d (encode-bytes d g)).1 (g, refl))

pub wide-written : (d : Declaration) → well_formed d ≡ true → wide_output (encode 2 d) ≡ writes (encode 4 d)
unfolding wide_output
wide-written d g = rw ((tight-exactly (encode 2 d) d (tight-bytes d g)).1 (g, refl))

-- a record and its tight record say one declaration
pub record OneSaid (b t : List ℕ) : Type 0 where
  pub declaration : Declaration
  pub well : well_formed declaration ≡ true
  pub old : b ≡ encode 4 declaration
  pub tight : t ≡ encode 2 declaration

tight-said : (o : Option Declaration) (f : Declaration → Output) (u : List ℕ) → of_tight o f ≡ writes u → (d : Declaration) × (o ≡ Some d) × (f d ≡ writes u)
tight-said None f u e = absurd (refuses-not e)
tight-said (Some d) f u e = (d, refl, e)

pub said-narrowed : (b t : List ℕ) → Bytes b → tight_output b ≡ writes t → OneSaid b t
unfolding tight_output
said-narrowed b t h e =
    let (d, q, f) = said-by (decode b) (λ x. writes (encode 2 x)) t e in
    let (g, u) = (decode-exactly b d h).0 q in
    record { declaration = d; well = g; old = u; tight = cc }

pub said-widened : (t b : List ℕ) → Bytes t → wide_output t ≡ writes b → OneSaid b t
unfolding wide_output
said-widened t b h e =
    let (d, q, f) = tight-said (decode_tight t) (λ x. writes (encode 4 x)) b e in
    let (g, u) = (tight-exactly t d h).0 q in
    record { declaration = d; well = g; old = cc; tight = u }

-- "Both conversions together give back the first bytes"
pub tight-wide : (b t : List ℕ) → Bytes b → tight_output b ≡ writes t → wide_output t ≡ writes b
tight-wide b t h e = let s = said-narrowed b t h e in ap wide_output s.tight ∙ wide-written s.declaration s.well ∙ ap writes (sym s.old)

pub wide-tight : (t b : List ℕ) → Bytes t → wide_output t ≡ writes b → tight_output b ≡ writes t
wide-tight t b h e = let s = said-widened t b h e in ap tight_output s.old ∙ tight-written s.declaration s.well ∙ ap writes (sym s.tight)

-- whatever is written of a declaration is the same from its tight record and from its old form
module _ (b t : List ℕ) (s : OneSaid b t) where
  pub tight-same : (f : Declaration → Output) → of_tight (decode_tight t) f ≡ of_record (decode b) f
  tight-same f =
      let d : Declaration = s.declaration in
      let x : decode_tight t ≡ Some d = rw s.tight ((tight-exactly (encode 2 d) d (tight-bytes d s.well)).1 (s.well, refl)) in
      let y : decode b ≡ Some d = rw s.old ((decode-exactly (encode 4 d) d (encode-bytes d s.well)).1 (s.well, refl)) in
      rw (x, y)

  -- "canonical, signature and full text from a tight record equal those from its old form"
  pub canonical-same : canonical_tight_output t ≡ canonical_output b
  unfolding canonical_tight_output canonical_output
  canonical-same = tight-same (λ d. or_wrong_sort (canonical_text d))

  pub signature-same : signature_tight_output t ≡ signature_output b
  unfolding signature_tight_output signature_output
  signature-same = tight-same (λ d. or_wrong_sort (signature_text d))

  pub full-same : full_tight_output t ≡ full_output b
  unfolding full_tight_output full_output
  full-same = tight-same (λ d. writes (full_text d))
