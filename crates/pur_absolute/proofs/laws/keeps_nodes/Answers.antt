use Rattle.std.proofs.Common.{◌≡◌, true, false, subst, sym}
use Rattle.pur_modules.specs.Contents.{is_excluded_in}
use Rattle.pur_tree.specs.Properties.{free, permitted}
use Rattle.pur_tree.specs.Walks.{walk}
use Rattle.pur_tree.proofs.HoldsLemmas.{Holds-joined_nodes, IsForest-joined_nodes}
use Rattle.pur_tree.proofs.WalkLemmas.{is_joined-joined_nodes}
use Rattle.pur_absolute.specs.Absolute.{absolute_element}
use Rattle.pur_absolute.proofs.LeftLemmas.{Holds-left, IsForest-left, walk-left}
use Rattle.pur_absolute.proofs.laws.keeps_nodes.Goals as goal

pub returns : goal.returns
returns c = λ allows base nodes.
    let after = walk (absolute_element allows base) nodes in
    let left = walk-left allows base nodes in
    record {
      forest = λ is. IsForest-joined_nodes after (IsForest-left left is);
      joined = is_joined-joined_nodes after;
      excluded = λ outer is.
          Holds-joined_nodes free (λ w s t h k. tt) outer after
          (Holds-left free (λ w e d same none. subst (λ name. is_excluded_in w name ≡ false) (sym same) none) left outer is);
      allowed = λ permits is.
          Holds-joined_nodes (permitted permits) (λ w s t h k. tt) tt after
          (Holds-left (permitted permits) (λ w e d same may. subst (λ name. permits name ≡ true) (sym same) may) left tt is);
    }
