pub mod PicturesGoOn
