-- A node put behind those of its part.
use Rattle.std.proofs.Common.{◌≡◌, [], ◌∷◌, ◌++◌, refl}
use Rattle.std.specs.declared.alloc.Global.{Global}
use Rattle.std.specs.declared.vec.Vec.{Vec}
use Rattle.pur_tree.specs.declared.node.Node.{Node}
use Rattle.pur_tree.specs.Nodes.{Nodes, nodes_append}
use Rattle.pur_tree.proofs.PushLemmas.{pushed_to}
use Rattle.pur_nesting.specs.declared.parts.Parts.{Parts}
use Rattle.pur_nesting.specs.declared.roles.Part.{Part}
use Rattle.pur_nesting.specs.declared.roles.Part.TheVariants.{Lead, Captions, Columns, Heads, Feet, Bodies, Surplus}
use Rattle.pur_nesting.specs.Private.Grouping.{stack, before_if}

pub push-Lead : (parts : Parts) (v : Vec Node Global) (x : Node) → v.items ≡ parts.lead.items ++ x ∷ [] → (wanted : Part) (more : Nodes)
    → nodes_append (stack wanted (record parts { lead = v })) more ≡ nodes_append (stack wanted parts) (before_if wanted Lead x more)
push-Lead parts v x e Lead more = pushed_to parts.lead.items v.items x more e
push-Lead parts v x e Captions more = refl
push-Lead parts v x e Columns more = refl
push-Lead parts v x e Heads more = refl
push-Lead parts v x e Feet more = refl
push-Lead parts v x e Bodies more = refl
push-Lead parts v x e Surplus more = refl

pub push-Captions : (parts : Parts) (v : Vec Node Global) (x : Node) → v.items ≡ parts.captions.items ++ x ∷ [] → (wanted : Part) (more : Nodes)
    → nodes_append (stack wanted (record parts { captions = v })) more ≡ nodes_append (stack wanted parts) (before_if wanted Captions x more)
push-Captions parts v x e Lead more = refl
push-Captions parts v x e Captions more = pushed_to parts.captions.items v.items x more e
push-Captions parts v x e Columns more = refl
push-Captions parts v x e Heads more = refl
push-Captions parts v x e Feet more = refl
push-Captions parts v x e Bodies more = refl
push-Captions parts v x e Surplus more = refl

pub push-Columns : (parts : Parts) (v : Vec Node Global) (x : Node) → v.items ≡ parts.columns.items ++ x ∷ [] → (wanted : Part) (more : Nodes)
    → nodes_append (stack wanted (record parts { columns = v })) more ≡ nodes_append (stack wanted parts) (before_if wanted Columns x more)
push-Columns parts v x e Lead more = refl
push-Columns parts v x e Captions more = refl
push-Columns parts v x e Columns more = pushed_to parts.columns.items v.items x more e
push-Columns parts v x e Heads more = refl
push-Columns parts v x e Feet more = refl
push-Columns parts v x e Bodies more = refl
push-Columns parts v x e Surplus more = refl

pub push-Heads : (parts : Parts) (v : Vec Node Global) (x : Node) → v.items ≡ parts.heads.items ++ x ∷ [] → (wanted : Part) (more : Nodes)
    → nodes_append (stack wanted (record parts { heads = v })) more ≡ nodes_append (stack wanted parts) (before_if wanted Heads x more)
push-Heads parts v x e Lead more = refl
push-Heads parts v x e Captions more = refl
push-Heads parts v x e Columns more = refl
push-Heads parts v x e Heads more = pushed_to parts.heads.items v.items x more e
push-Heads parts v x e Feet more = refl
push-Heads parts v x e Bodies more = refl
push-Heads parts v x e Surplus more = refl

pub push-Feet : (parts : Parts) (v : Vec Node Global) (x : Node) → v.items ≡ parts.feet.items ++ x ∷ [] → (wanted : Part) (more : Nodes)
    → nodes_append (stack wanted (record parts { feet = v })) more ≡ nodes_append (stack wanted parts) (before_if wanted Feet x more)
push-Feet parts v x e Lead more = refl
push-Feet parts v x e Captions more = refl
push-Feet parts v x e Columns more = refl
push-Feet parts v x e Heads more = refl
push-Feet parts v x e Feet more = pushed_to parts.feet.items v.items x more e
push-Feet parts v x e Bodies more = refl
push-Feet parts v x e Surplus more = refl

pub push-Bodies : (parts : Parts) (v : Vec Node Global) (x : Node) → v.items ≡ parts.bodies.items ++ x ∷ [] → (wanted : Part) (more : Nodes)
    → nodes_append (stack wanted (record parts { bodies = v })) more ≡ nodes_append (stack wanted parts) (before_if wanted Bodies x more)
push-Bodies parts v x e Lead more = refl
push-Bodies parts v x e Captions more = refl
push-Bodies parts v x e Columns more = refl
push-Bodies parts v x e Heads more = refl
push-Bodies parts v x e Feet more = refl
push-Bodies parts v x e Bodies more = pushed_to parts.bodies.items v.items x more e
push-Bodies parts v x e Surplus more = refl

pub push-Surplus : (parts : Parts) (v : Vec Node Global) (x : Node) → v.items ≡ parts.surplus.items ++ x ∷ [] → (wanted : Part) (more : Nodes)
    → nodes_append (stack wanted (record parts { surplus = v })) more ≡ nodes_append (stack wanted parts) (before_if wanted Surplus x more)
push-Surplus parts v x e Lead more = refl
push-Surplus parts v x e Captions more = refl
push-Surplus parts v x e Columns more = refl
push-Surplus parts v x e Heads more = refl
push-Surplus parts v x e Feet more = refl
push-Surplus parts v x e Bodies more = refl
push-Surplus parts v x e Surplus more = pushed_to parts.surplus.items v.items x more e
