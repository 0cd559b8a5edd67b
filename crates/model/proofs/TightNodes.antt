-- Records of any kind as trees without lengths, in layouts of any width: the trees that bytes say, how long they are laid out, and that bytes stay bytes.
-- Assumes nothing.
use mathlib.Core.Path.{◌≡◌, refl, sym, ◌∙◌}
use mathlib.Core.Bool.{Bool, true, false, ◌&&◌, false≢true}
use mathlib.Core.List.{List, ◌++◌, append-nil}
use Rattle.std.specs.Prelude.{Option, None, Some}
use Rattle.std.proofs.lemmas.Option.{none-some, same_Some}
use Prim.Native.Nat.{ℕ, zero, suc, ◌+◌, ◌*◌, ◌^◌, ◌≤◌, ◌<◌}
use native.Mathlib.Omega.{arith}
use lib.Dec.{leb, ltb, eqb}
use lib.ListN.{length, take, drop, length-append, take-append-drop}
use lib.Seq.{take_at, drop_at, length-take-le}
use borrow.Author.Tests.{leb-true, le-leb, ltb-true, eqb-true, eq-eqb}
use Rattle.kinds.proofs.Logic.{left, right}
use Rattle.model.specs.Layout.{little_endian, record_of, Bytes}
use Rattle.model.specs.Tight.{Node, node, Nodes, no_node, more_nodes, laid, laid_all, front_length, node_by, node_from, nodes_from}
use Rattle.model.proofs.Pieces.{bytes_nil, bytes_append, record_bytes, bytes_take, bytes_drop, le_length, record_length}
use Rattle.model.proofs.Decoding.{Sound, Written, Reads, Spells, Lists, when-some, on_some, each_spells}

-- Trees whose records begin as their kinds want, and nest at most d deep.

abbrev is_none : Nodes → Bool
is_none no_node = true
is_none (more_nodes n ns) = false

abbrev is_node_by : Bool → Option ℕ → List ℕ → Nodes → Bool
is_node_by inner None p ns = is_none ns
is_node_by inner (Some m) p ns = eqb (length p) m && inner

unfoldable mutual
  pub is_node : Node → ℕ → Bool
  is_node (node k p ns) d = ltb k 65536 && is_node_by (are_nodes ns d) (front_length k) p ns

  pub are_nodes : Nodes → ℕ → Bool
  are_nodes no_node zero = false
  are_nodes no_node (suc d) = true
  are_nodes (more_nodes n ns) zero = false
  are_nodes (more_nodes n ns) (suc d) = is_node n d && are_nodes ns (suc d)

-- bytes are read as records exactly where they are those records laid out
module _ (w : ℕ) where
  module _ (N : List ℕ → Option Nodes) (d : ℕ) (S : Spells w N (λ ns. are_nodes ns d) (laid_all w)) where
    node-from : (k : ℕ) → Sound w (λ n. is_node n d) (laid w) k (node_from w N k)
    unfolding node_from is_node laid laid_all
    node-from k body a h e = when-some (ltb k 65536) _ e (λ small f. go (front_length k) refl small f)
      where
        go : (o : Option ℕ) → front_length k ≡ o → ltb k 65536 ≡ true → node_by w N k body o ≡ Some a → (is_node a d ≡ true) × (laid w a ≡ record_of w k body)
        go None q small f = rw (← (same_Some _ _ f), is_node, q, small) (refl, rw append-nil)
        go (Some m) q small f =
            when-some (leb m (length body)) _ f (λ l g.
            on_some (node k (take m body)) (N (drop m body)) g (λ ns p same.
            let (good, there) = S.from (drop m body) ns (bytes_drop m body h) p in
            rw (← same, is_node, q, small, length-take-le m body (leb-true _ _ l), eq-eqb m m refl, good, ← there, take-append-drop m body) (refl, refl)))

    node-to : (a : Node) → is_node a d ≡ true → length (laid w a) < 256 ^ w → Written w (node_from w N) (laid w a) a
    unfolding is_node laid node_from laid_all
    node-to (node k p ns) g l =
        let small : ltb k 65536 ≡ true = left _ g in
        (k, p ++ laid_all w ns, ltb-true _ _ small, refl, rw (node_from, small) (go (front_length k) refl (right (ltb k 65536) g)))
      where
        none_is : (ms : Nodes) → is_none ms ≡ true → Some (node k (p ++ laid_all w ms) no_node) ≡ Some (node k p ms)
        none_is no_node h = rw append-nil
        none_is (more_nodes m ms) h = absurd (false≢true h)

        go : (o : Option ℕ) → front_length k ≡ o → is_node_by (are_nodes ns d) o p ns ≡ true → node_by w N k (p ++ laid_all w ns) o ≡ Some (node k p ns)
        go None q h = none_is ns h
        go (Some m) q h =
            let long : length p ≡ m = eqb-true _ _ (left _ h) in
            let fits : leb m (length (p ++ laid_all w ns)) ≡ true = le-leb m (length (p ++ laid_all w ns)) (omega (arith, length-append p (laid_all w ns))) in
            let inner : N (laid_all w ns) ≡ Some ns = S.to ns (right (eqb (length p) m) h) (omega (arith, record_length w k (p ++ laid_all w ns), length-append p (laid_all w ns))) in
            rw (node_by, fits, take_at p (laid_all w ns) m long, drop_at p (laid_all w ns) m long, inner)

    node-reads : Reads w (node_from w N) (λ n. is_node n d) (laid w)
    node-reads = record { from = node-from; to = node-to }

  node_lists : (d : ℕ) → Lists no_node more_nodes (λ n. is_node n d) (laid w) (λ ns. are_nodes ns (suc d)) (laid_all w)
  unfolding are_nodes laid_all
  node_lists d = record { induction = go; good_nil = refl; good_cons = λ n ns. refl; enc_nil = refl; enc_cons = λ n ns. refl }
    where
      go : (P : Nodes → Type 0) → P no_node → ((n : Node) (ns : Nodes) → P ns → P (more_nodes n ns)) → (ns : Nodes) → P ns
      go P z c no_node = z
      go P z c (more_nodes n ns) = c n ns (go P z c ns)

  nothing-deep : (ns : Nodes) → are_nodes ns zero ≡ false
  unfolding are_nodes
  nothing-deep no_node = refl
  nothing-deep (more_nodes n ns) = refl

  pub nodes_spell : (d : ℕ) → Spells w (nodes_from w d) (λ ns. are_nodes ns d) (laid_all w)
  unfolding nodes_from
  nodes_spell zero = record { from = λ b ns h e. absurd (none-some ns e); to = λ ns g l. absurd (false≢true (sym (nothing-deep ns) ∙ g)) }
  nodes_spell (suc d) =
      each_spells w no_node more_nodes (node_from w (nodes_from w d)) (λ n. is_node n d) (laid w) (λ ns. are_nodes ns (suc d)) (laid_all w) (node_lists d)
      (node-reads (nodes_from w d) d (nodes_spell d))

-- how many records there are, those within others too
unfoldable mutual
  pub heads : Node → ℕ
  heads (node k p ns) = suc (all_heads ns)

  pub all_heads : Nodes → ℕ
  all_heads no_node = 0
  all_heads (more_nodes n ns) = heads n + all_heads ns

-- "every length is 2 bytes instead of 4": two bytes less for each record
mutual
  unfolding heads laid

  pub wider : (n : Node) → length (laid 4 n) ≡ length (laid 2 n) + 2 * heads n
  wider (node k p ns) = simp (record_length, length-append) (omega (arith, all-wider ns))

  pub all-wider : (ns : Nodes) → length (laid_all 4 ns) ≡ length (laid_all 2 ns) + 2 * all_heads ns
  all-wider no_node = refl
  all-wider (more_nodes n ns) = simp length-append (omega (arith, wider n, all-wider ns))

-- and each has four at least
mutual
  unfolding heads laid

  heads-few : (n : Node) → 4 * heads n ≤ length (laid 2 n)
  heads-few (node k p ns) = simp (record_length, length-append) (omega (arith, all-heads-few ns))

  pub all-heads-few : (ns : Nodes) → 4 * all_heads ns ≤ length (laid_all 2 ns)
  all-heads-few no_node = omega arith
  all-heads-few (more_nodes n ns) = simp length-append (omega (arith, heads-few n, all-heads-few ns))

-- what is bytes in one layout is bytes in another
module _ (w v : ℕ) where
  mutual
    unfolding laid record_of

    node-bytes : (n : Node) → Bytes (laid w n) → Bytes (laid v n)
    node-bytes (node k p ns) h =
        let body : List ℕ = p ++ laid_all w ns in
        let behind : Bytes (little_endian 2 k ++ body) = rw (drop_at (little_endian w (w + 2 + length body)) (little_endian 2 k ++ body) w (le_length w _)) at (bytes_drop w _ h) in
        let rest : Bytes body = rw (drop_at (little_endian 2 k) body 2 (le_length 2 k)) at (bytes_drop 2 _ behind) in
        let front : Bytes p = rw (take_at p (laid_all w ns) (length p) refl) at (bytes_take (length p) _ rest) in
        let back : Bytes (laid_all w ns) = rw (drop_at p (laid_all w ns) (length p) refl) at (bytes_drop (length p) _ rest) in
        record_bytes v k (p ++ laid_all v ns) (bytes_append p (laid_all v ns) front (nodes_bytes ns back))

    pub nodes_bytes : (ns : Nodes) → Bytes (laid_all w ns) → Bytes (laid_all v ns)
    nodes_bytes no_node h = bytes_nil
    nodes_bytes (more_nodes n ns) h =
        let one : Bytes (laid w n) = rw (take_at (laid w n) (laid_all w ns) (length (laid w n)) refl) at (bytes_take (length (laid w n)) _ h) in
        let more : Bytes (laid_all w ns) = rw (drop_at (laid w n) (laid_all w ns) (length (laid w n)) refl) at (bytes_drop (length (laid w n)) _ h) in
        bytes_append (laid v n) (laid_all v ns) (node-bytes n one) (nodes_bytes ns more)
