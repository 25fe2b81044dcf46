-- A lemma over a test `p` and its three premises, in an anonymous `module _ (p ..)`, serves every
-- alphabet.
--
-- What is left behind a limit (`rest` of `read_up_to`) is one lemma by cases (full, or at the end),
-- cited in the `tactic`; `apart` through a loop is one line of its invariant.
--
-- A ghost member with a default (`apart`), and a trait with no `fn` whose ghosts are laws over its
-- supertraits' members (`Link`): each impl gives `refl`. No other impl of the supertraits changes.
--
-- A method that repeats its trait's clauses, with spec functions of the object in place of the ghosts,
-- may add its own: that only the listed calls fail, how many bytes, what the count is.
--
-- An object that hands on to a part (`MemLink`) repeats the part's clauses with `link_source self.old`
-- in place of `self.old`, and that the other part stays: by search.
--
-- A record of specs/ may have implicit parameters (`Calls {Row Answer : Type 0} (says : ..) ..`); a
-- trait's clause cites it with ghost members of the trait.
pub mod AddrLemmas
pub mod CommandLemmas
pub mod Contents
pub mod ToolchainLemmas
