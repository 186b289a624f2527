mod DotLemmas
mod PieceLemmas
mod WalkLemmas
mod ResolvingLemmas
mod HostLemmas
