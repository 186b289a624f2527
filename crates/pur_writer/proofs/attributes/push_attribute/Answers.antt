use Rattle.std.proofs.Common.{◌≡◌, ◌∙◌, ◌++◌, ℕ, List, ap, sym, codes, append_assoc}
use Rattle.pur_tree.specs.Spelling.{escaped_value}
use Rattle.pur_writer.proofs.ValueLemmas.{encode-attribute}
use Rattle.pur_writer.proofs.attributes.push_attribute.Goals as goal

-- parts that are written one after the other
one_after_another : (o a b c d e s n q v z : List ℕ) → a ≡ o ++ s → b ≡ a ++ n → c ≡ b ++ q → d ≡ c ++ v → e ≡ d ++ z
    → e ≡ o ++ (s ++ (n ++ (q ++ (v ++ z))))
one_after_another o a b c d e s n q v z p1 p2 p3 p4 p5 = rw (p5, p4, p3, p2, p1) (simp append_assoc)

pub returns : goal.returns
returns c =
    one_after_another c.args.out.now.items c.extend_from_slice.new.self.items c.extend_from_slice-2.new.self.items c.extend_from_slice-3.new.self.items
    c.push_value.new.out.items c.extend_from_slice-4.new.self.items (codes " ") c.args.name.now (codes "=\"") (escaped_value c.args.value.now) (codes "\"")
    c.in_ok-extend_from_slice.ensures.items (c.in_ok-extend_from_slice-2.ensures.items ∙ ap (λ x. c.extend_from_slice.new.self.items ++ x) c.as_bytes.ensures.value)
    c.in_ok-extend_from_slice-3.ensures.items (c.in_ok-push_value.ensures ∙ ap (λ x. c.extend_from_slice-3.new.self.items ++ escaped_value x) c.as_bytes-2.ensures.value)
    c.in_ok-extend_from_slice-4.ensures.items
    ∙ ap (λ x. c.args.out.now.items ++ x) (sym (encode-attribute c.args.name.now c.args.value.now c.utf8.name c.utf8.value))
