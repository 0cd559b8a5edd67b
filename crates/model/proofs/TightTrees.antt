-- The record of a declaration is the same tree of records in every layout; it nests at most 68 deep.
-- Assumes nothing.
use mathlib.Core.Path.{◌≡◌, refl, sym, ◌∙◌, ap, ap₂}
use mathlib.Core.Bool.{true, false≢true}
use mathlib.Core.List.{List, [], ◌∷◌, ◌++◌, append-nil}
use Prim.Native.Nat.{ℕ, zero, suc, ◌+◌}
use native.Mathlib.Omega.{arith}
use Rattle.kinds.specs.Bytes.{between, is_word}
use Rattle.kinds.specs.Kind.{bits, octets, Elementary, int, uint, fixed_bytes, address, bool, bytes, string, Suffix, sized, unsized}
use Rattle.kinds.proofs.Logic.{both, left, right}
use Rattle.model.specs.Layout.{little_endian, record_of}
use Rattle.model.specs.Tree.{Base, elementary, tuple, Field, field, Fields, no_field, more_fields, Declaration}
use Rattle.model.specs.Record.{encode_elementary, encode_suffix, encode_suffixes, encode_name, encode_base, encode_field, encode_fields, encode_list, encode, is_declaration, is_base, is_field, are_fields}
use Rattle.model.specs.declared.Sort.{Sort}
use Rattle.model.specs.declared.Sort.TheVariants.{Plain, Parameter, Event}
use Rattle.model.specs.Reading.{deepest}
use Rattle.model.specs.Tight.{Node, node, Nodes, no_node, more_nodes, laid, laid_all, front_length, deepest_record}
use Rattle.model.proofs.TightNodes.{is_node, are_nodes}

elementary_node : Elementary → Node
elementary_node (int (bits n)) = node 0x1 (little_endian 2 n) no_node
elementary_node (uint (bits n)) = node 0x2 (little_endian 2 n) no_node
elementary_node address = node 0x3 [] no_node
elementary_node bool = node 0x4 [] no_node
elementary_node (fixed_bytes (octets n)) = node 0x5 (little_endian 2 n) no_node
elementary_node Elementary.function = node 0x6 [] no_node
elementary_node bytes = node 0x7 [] no_node
elementary_node string = node 0x8 [] no_node

suffix_node : Suffix → Node
suffix_node (sized n) = node 0xA (little_endian 8 n) no_node
suffix_node unsized = node 0xB [] no_node

suffix_nodes : List Suffix → Nodes
suffix_nodes [] = no_node
suffix_nodes (s ∷ ss) = more_nodes (suffix_node s) (suffix_nodes ss)

name_node : List ℕ → Node
name_node nm = node 0x11 nm no_node

mutual
  base_node : Base → Node
  base_node (elementary e) = elementary_node e
  base_node (tuple fs) = node 0x9 [] (field_nodes fs)

  field_node : Field → Node
  field_node (field m nm b ss) = node 0x10 (little_endian 2 m) (more_nodes (name_node nm) (more_nodes (base_node b) (suffix_nodes ss)))

  field_nodes : Fields → Nodes
  field_nodes no_field = no_node
  field_nodes (more_fields f fs) = more_nodes (field_node f) (field_nodes fs)

list_node : Fields → Node
list_node fs = node 0x12 [] (field_nodes fs)

pub declaration_node : Declaration → Node
declaration_node (Declaration.function m nm ins outs) = node 0x20 (little_endian 2 m) (more_nodes (name_node nm) (more_nodes (list_node ins) (more_nodes (list_node outs) no_node)))
declaration_node (Declaration.constructor m ins) = node 0x21 (little_endian 2 m) (more_nodes (list_node ins) no_node)
declaration_node (Declaration.event a nm ins) = node 0x22 (little_endian 2 a) (more_nodes (name_node nm) (more_nodes (list_node ins) no_node))
declaration_node (Declaration.error nm ins) = node 0x23 [] (more_nodes (name_node nm) (more_nodes (list_node ins) no_node))

-- the same tree for every width
module _ (w : ℕ) where
  elementary-laid : (e : Elementary) → encode_elementary w e ≡ laid w (elementary_node e)
  unfolding encode_elementary elementary_node laid laid_all
  elementary-laid (int (bits n)) = rw append-nil
  elementary-laid (uint (bits n)) = rw append-nil
  elementary-laid (fixed_bytes (octets n)) = rw append-nil
  elementary-laid address = refl
  elementary-laid bool = refl
  elementary-laid Elementary.function = refl
  elementary-laid bytes = refl
  elementary-laid string = refl

  suffix-laid : (s : Suffix) → encode_suffix w s ≡ laid w (suffix_node s)
  unfolding encode_suffix suffix_node laid laid_all
  suffix-laid (sized n) = rw append-nil
  suffix-laid unsized = refl

  suffixes-laid : (ss : List Suffix) → encode_suffixes w ss ≡ laid_all w (suffix_nodes ss)
  unfolding encode_suffixes suffix_nodes laid_all
  suffixes-laid [] = refl
  suffixes-laid (s ∷ ss) = ap₂ ◌++◌ (suffix-laid s) (suffixes-laid ss)

  name-laid : (nm : List ℕ) → encode_name w nm ≡ laid w (name_node nm)
  unfolding encode_name name_node laid laid_all
  name-laid nm = rw append-nil

  mutual
    unfolding encode_base base_node laid laid_all

    base-laid : (b : Base) → encode_base w b ≡ laid w (base_node b)
    base-laid (elementary e) = elementary-laid e
    base-laid (tuple fs) = ap (record_of w 0x9) (fields_laid fs)

    field-laid : (f : Field) → encode_field w f ≡ laid w (field_node f)
    field-laid (field m nm b ss) = ap (λ x. record_of w 0x10 (little_endian 2 m ++ x)) (ap₂ ◌++◌ (name-laid nm) (ap₂ ◌++◌ (base-laid b) (suffixes-laid ss)))

    fields_laid : (fs : Fields) → encode_fields w fs ≡ laid_all w (field_nodes fs)
    fields_laid no_field = refl
    fields_laid (more_fields f fs) = ap₂ ◌++◌ (field-laid f) (fields_laid fs)

  list-laid : (fs : Fields) → encode_list w fs ≡ laid w (list_node fs)
  unfolding encode_list list_node laid
  list-laid fs = ap (record_of w 0x12) (fields_laid fs)

  pub declaration-laid : (d : Declaration) → encode w d ≡ laid w (declaration_node d)
  unfolding encode declaration_node laid laid_all
  declaration-laid (Declaration.function m nm ins outs) = rw (name-laid nm, list-laid ins, list-laid outs, append-nil)
  declaration-laid (Declaration.constructor m ins) = rw (list-laid ins, append-nil)
  declaration-laid (Declaration.event a nm ins) = rw (name-laid nm, list-laid ins, append-nil)
  declaration-laid (Declaration.error nm ins) = rw (name-laid nm, list-laid ins, append-nil)

-- the bytes that are a declaration's record, as the only one of some records
pub sole : Declaration → Nodes
sole d = more_nodes (declaration_node d) no_node

pub sole-laid : (w : ℕ) (d : Declaration) → encode w d ≡ laid_all w (sole d)
unfolding sole laid_all
sole-laid w d = declaration-laid w d ∙ sym (append-nil (laid w (declaration_node d)))

-- records of well-formed trees begin as their kinds want
elementary-node : (e : Elementary) (d : ℕ) → is_node (elementary_node e) d ≡ true
unfolding elementary_node is_node front_length
elementary-node (int (bits n)) d = refl
elementary-node (uint (bits n)) d = refl
elementary-node (fixed_bytes (octets n)) d = refl
elementary-node address d = refl
elementary-node bool d = refl
elementary-node Elementary.function d = refl
elementary-node bytes d = refl
elementary-node string d = refl

suffix_nodes_lem : (ss : List Suffix) (d : ℕ) → are_nodes (suffix_nodes ss) (suc d) ≡ true
unfolding suffix_nodes suffix_node are_nodes is_node front_length
suffix_nodes_lem [] d = refl
suffix_nodes_lem (sized n ∷ ss) d = suffix_nodes_lem ss d
suffix_nodes_lem (unsized ∷ ss) d = suffix_nodes_lem ss d

name-node : (nm : List ℕ) (d : ℕ) → is_node (name_node nm) d ≡ true
unfolding name_node is_node front_length
name-node nm d = refl

-- where e tuples may nest, there are a field and a tuple for each
mutual
  unfolding base_node is_node are_nodes front_length is_base is_field are_fields little_endian

  base-node : (b : Base) (e : ℕ) → is_base e b ≡ true → is_node (base_node b) (e + e) ≡ true
  base-node (elementary x) e h = elementary-node x (e + e)
  base-node (tuple fs) zero h = absurd (false≢true h)
  base-node (tuple fs) (suc e) h = let z : suc e + suc e ≡ suc (suc (e + e)) = omega arith in rw z (field_nodes_lem fs Plain e h)

  field-node : (f : Field) (sort : Sort) (e : ℕ) → is_field sort e f ≡ true → is_node (field_node f) (suc (e + e)) ≡ true
  field-node (field m nm b ss) sort e h = both (name-node nm (e + e)) (both (base-node b e (search (left, right))) (suffix_nodes_lem ss (e + e)))

  field_nodes_lem : (fs : Fields) (sort : Sort) (e : ℕ) → are_fields sort e fs ≡ true → are_nodes (field_nodes fs) (suc (suc (e + e))) ≡ true
  field_nodes_lem no_field sort e h = refl
  field_nodes_lem (more_fields f fs) sort e h = both (field-node f sort e (left _ h)) (field_nodes_lem fs sort e (right (is_field sort e f) h))

-- a declaration's own list isn't one of the nested tuples
list-node : (fs : Fields) (sort : Sort) → are_fields sort deepest fs ≡ true → is_node (list_node fs) 66 ≡ true
unfolding list_node is_node front_length
list-node fs sort h = field_nodes_lem fs sort deepest h

pub declaration_nodes : (d : Declaration) → is_declaration d ≡ true → are_nodes (sole d) deepest_record ≡ true
unfolding sole declaration_node are_nodes is_node front_length is_declaration little_endian
declaration_nodes (Declaration.function m nm ins outs) h = rw (name-node nm 66, list-node ins Parameter (search (left, right)), list-node outs Parameter (search (left, right)))
declaration_nodes (Declaration.constructor m ins) h = rw (list-node ins Parameter (right (between 2 3 m) h))
declaration_nodes (Declaration.event a nm ins) h = rw (name-node nm 66, list-node ins Event (search (left, right)))
declaration_nodes (Declaration.error nm ins) h = rw (name-node nm 66, list-node ins Plain (right (is_word nm) h))
