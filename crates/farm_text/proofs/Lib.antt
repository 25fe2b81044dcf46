pub mod HexLemmas
